use Rattle.std.proofs.Common.{◌≡◌, length, arith}
use Rattle.shm_life.proofs.Noticing.{all-told}
use Rattle.shm_life.proofs.kernel.Kernel.next_gone.Goals as goal

pub returns : goal.returns
returns g c =
    let table = c.args.self.now.flat.table in
    let size : c.indexes-indexes.result ≡ length table = rw (← c.self.view_is) c.indexes-indexes.ensures in (
      omega (arith, size, c.if-told-indexes.false),
      all-told table c.args.told.now (λ i l. c.loop-index.invariant.1 i (omega (arith, l, size, c.loop-index-test.false))),
      c.loop-index.invariant.0,
    )
