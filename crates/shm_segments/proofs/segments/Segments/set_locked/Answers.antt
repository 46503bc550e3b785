use Rattle.shm_segments.proofs.Names.{◌≡◌, ◌≤◌, ◌+◌, ◌%◌, length, true, sym, ap, ◌∙◌, arith, with_value, with_lock, joined_table, locked_of_rows, change, locked, held, SegmentsView, relocked, relocked_head, is_some, locked_pages_in_store, MOST_SHMALL, MOST_SHMMAX}
use Rattle.shm_segments.proofs.Edits.{look-live}
use Rattle.shm_segments.proofs.Finding.{is_live-look, live-held}
use Rattle.shm_segments.proofs.Making.{kept-locked, few-pages, relocked-size, relocked-locked}
use Rattle.shm_segments.proofs.Staying.{moves-locked}
use Rattle.shm_segments.proofs.Sums.{locked-joined}
use Rattle.shm_segments.proofs.segments.Segments.set_locked.Goals as goal

pub value_mut-head-requires : goal.value_mut-head-requires
value_mut-head-requires g c = record { live = is_live-look (held c.self.inside.store) c.self.inside.table c.args.seg (rw (← c.self.view_is) at c.requires.live) }

pub set_locked-requires-clause-there : goal.set_locked-requires-clause-there
set_locked-requires-clause-there g c = live-held c.self.inside.store c.self.inside.table c.args.seg c.self.invariant.kept.agree (rw (← c.self.view_is) at c.requires.live)

pub set_locked-requires-clause-few : goal.set_locked-requires-clause-few
set_locked-requires-clause-few g c = λ on.
    let s = c.self.inside.store in
    let v = c.value_mut-head.result.now in
    let o = c.args.locker in
    let yes : is_some o ≡ true = sym c.is_some.ensures ∙ on in
    let k = kept-locked (held s) c.self.inside.table c.self.inside.reserved c.self.inside.locked c.args.seg v o c.self.invariant.kept c.value_mut-head.ensures.value in
    let few : locked (change (joined_table (held s) c.self.inside.table) c.args.seg (relocked o)) + 2 ≤ length s.frames = (rw (← c.self.view_is) at c.requires.few) yes in
    let sum : locked (change (joined_table (held s) c.self.inside.table) c.args.seg (relocked o)) ≡ locked_of_rows (with_value c.self.inside.table (c.args.seg % 32768) (relocked_head o v)) =
    ap locked (sym k.is) ∙ locked-joined (with_lock (held s) c.args.seg (is_some o)) (with_value c.self.inside.table (c.args.seg % 32768) (relocked_head o v)) k.kept.agree in
    let fits : locked_pages_in_store (with_lock (held s) c.args.seg (is_some o)) + 2 ≤ length s.frames = omega (arith, few, sum, k.kept.few_locked, k.kept.locked) in
    rw yes at fits

pub overflow_add-self : goal.overflow_add-self
overflow_add-self g c =
    let lives = look-live c.self.inside.table c.args.seg c.value_mut-head.result.now c.value_mut-head.ensures.value in
    let range = c.self.invariant.kept.sizes c.args.seg _ lives in
    let small : c.relock.new.head.size ≤ MOST_SHMMAX = rw (c.relock.ensures, relocked-size c.args.locker c.value_mut-head.result.now) range.1 in
    let more : c.pages_locked-2.result ≤ MOST_SHMALL = rw c.pages_locked-2.ensures (few-pages c.relock.new.head.locked c.relock.new.head.size small) in
    let few : locked c.args.self.now.table ≤ MOST_SHMALL = c.requires.small in
    let own : c.self.inside.locked ≡ locked c.args.self.now.table =
    c.self.invariant.kept.locked ∙ sym (locked-joined (held c.self.inside.store) c.self.inside.table c.self.invariant.kept.agree) ∙ ap (λ (v : SegmentsView). locked v.table) c.self.view_is in
    omega (arith, more, few, own)

pub invariant_of-self : goal.invariant_of-self
invariant_of-self g c =
    let k = kept-locked (held c.self.inside.store) c.self.inside.table c.self.inside.reserved c.self.inside.locked c.args.seg c.value_mut-head.result.now c.args.locker c.self.invariant.kept c.value_mut-head.ensures.value in
    record { kept = rw (c.set_locked.ensures.held, c.pages_locked.ensures, c.pages_locked-2.ensures, c.is_some.ensures, c.relock.ensures, relocked-locked c.args.locker c.value_mut-head.result.now, relocked-size c.args.locker c.value_mut-head.result.now) k.kept; sound = c.set_locked.ensures.sound }

pub returns-clause-table : goal.returns-clause-table
returns-clause-table g c =
    let k = kept-locked (held c.self.inside.store) c.self.inside.table c.self.inside.reserved c.self.inside.locked c.args.seg c.value_mut-head.result.now c.args.locker c.self.invariant.kept c.value_mut-head.ensures.value in
    rw (c.set_locked.ensures.held, c.is_some.ensures, c.relock.ensures) (k.is ∙ ap (λ (v : SegmentsView). change v.table c.args.seg (relocked c.args.locker)) c.self.view_is)

pub returns-clause-moves : goal.returns-clause-moves
returns-clause-moves g c = rw (← c.self.view_is) (moves-locked c.self.inside.store c.set_locked.new.self c.args.seg _ c.self.invariant.sound c.set_locked.ensures.only c.set_locked.ensures.held)
