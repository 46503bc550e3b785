use Rattle.shm_fault.proofs.Names.{◌≡◌, ◌+◌, ◌-◌, ◌%◌, length, refl, arith, ref_of, seen}
use Rattle.shm_fault.proofs.Sound.{frame-own}
use Rattle.shm_fault.proofs.Spans.{span-read}
use Rattle.shm_fault.proofs.store.PageStore.copy_out.Goals as goal

pub bytes-bytes-requires : goal.bytes-bytes-requires
bytes-bytes-requires g c =
    let own = frame-own (seen c.self.inside) c.self.invariant.0 (ref_of c.args.span.now) c.args.frame (rw (← c.self.view_is) at c.requires.here) in
    record { there = own.0; owned = rw own.1 refl }

pub returns : goal.returns
returns g c =
    let read = span-read (seen c.self.inside) c.self.invariant.0 c.args.span.now c.args.frame (rw (← c.self.view_is) at c.requires.fit) (rw (← c.self.view_is) at c.requires.here) in
    let off = c.args.span.now.at % 4096 in
    let size : off + length c.args.out.now - off ≡ c.args.span.now.len = omega (arith, c.requires.size) in
    rw (c.copy_bytes.ensures, ← c.self.view_is, read, size, c.bytes-bytes.ensures.value) refl
