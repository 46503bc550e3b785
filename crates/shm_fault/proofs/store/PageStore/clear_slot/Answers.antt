use Rattle.shm_fault.proofs.Names.{err_from_is_err_and, true, ◌≡◌, ◌∙◌, sym, ap, refl, inl, Some, None, Ok, frame_at, rec_by, unlocked, PageRec, PagerFault, seen, Clears}
use Rattle.shm_fault.proofs.Skipped.{skipped-set, skipped-with}
use Rattle.shm_fault.proofs.Areas.{has-room, clears-none, clears-back, clears-carried, clears-not}
use Rattle.shm_fault.proofs.store.PageStore.clear_slot.Goals.{In-Some-frame, In_default-frame, After-set_page, After-set_page-2}
use Rattle.shm_fault.proofs.store.PageStore.clear_slot.Goals as goal

away : (g : _) (c : In_default-frame g) → (rec_by c.self.inside.segs c.in-Some.page).frame ≡ None
away g c = ap (λ (p : PageRec). p.frame) (sym c.page.ensures) ∙ c.in_default-frame.is

resident : (g : _) (c : In-Some-frame g) → (rec_by c.self.inside.segs c.in-Some.page).frame ≡ Some c.in-Some-frame.frame
resident g c = ap (λ (p : PageRec). p.frame) (sym c.page.ensures) ∙ c.in-Some-frame.is

carried : (g : _) (c : After-set_page g)
    → Clears {A = Unit {0}} {E = PagerFault} c.args.slot (seen c.self.inside) (record (seen c.self.inside) { segs = c.set_page.new.self; swap = c.relocate.new.self }) (Ok tt)
carried g c =
    rw c.set_page.ensures
    (clears-carried (seen c.self.inside) c.self.invariant.0 c.args.slot c.in-Some.page (sym c.in-Some.ensures) tt c.in_ok-to.to c.relocate.new.self (away g (goal.at.returns-in_default-frame g c).In_default-frame) c.in_ok-to.ensures)

back : (g : _) (c : After-set_page-2 g)
    → Clears {A = Unit {0}} {E = PagerFault} c.args.slot (seen c.self.inside) (record (seen c.self.inside) { segs = c.set_page-2.new.self; frames = c.set_dirty.new.self; swap = c.give_slot.new.self }) (Ok tt)
back g c =
    let e = c.give_slot.ensures in
    rw (c.set_page-2.ensures, c.set_dirty.ensures)
    (clears-back (seen c.self.inside) c.self.invariant.0 c.args.slot c.in-Some.page (sym c.in-Some.ensures) tt c.in-Some-frame.frame c.give_slot.new.self (resident g (goal.at.returns g c).In-Some-frame)
    (rw (← c.self.view_is) at c.requires.there) e.given e.sound e.steady)

pub returns-in_default : goal.returns-in_default
returns-in_default g c = clears-none c.args.self.now (rw c.self.view_is at c.self.invariant.0) c.args.slot _ (rw (← c.self.view_is) (sym c.in_default.ensures))

pub returns-in_err-to : goal.returns-in_err-to
returns-in_err-to g c =
    rw ((err_from_is_err_and c.from_residual.result c.from_residual.ensures.1).1, ← c.self.view_is)
    (clears-not (seen c.self.inside) c.self.invariant.0 c.args.slot c.in-Some.page (sym c.in-Some.ensures) c.relocate.new.self _ _ (away g (goal.at.returns-in_err-to g c).In_default-frame) c.in_err-to.ensures)

pub returns-in_default-frame : goal.returns-in_default-frame
returns-in_default-frame g c = rw (← c.self.view_is) (carried g c)

pub returns : goal.returns
returns g c = rw (← c.self.view_is) (back g c)

pub invariant_of-self-in_default-frame : goal.invariant_of-self-in_default-frame
invariant_of-self-in_default-frame g c =
    let i = c.self.inside in
    ((carried g c).sound, rw c.set_page.ensures (skipped-with i.segs c.in-Some.page _ i.frames i.skips c.self.invariant.1))

pub invariant_of-self-2 : goal.invariant_of-self-2
invariant_of-self-2 g c =
    let i = c.self.inside in (
      (back g c).sound,
      rw (c.set_page-2.ensures, c.set_dirty.ensures)
          (skipped-with i.segs c.in-Some.page _ _ i.skips (skipped-set (unlocked i.segs) i.frames i.skips c.self.invariant.1 c.in-Some-frame.frame (record (frame_at i.frames c.in-Some-frame.frame) { dirty = true }) (inl refl))),
    )

pub relocate-requires-clause-room : goal.relocate-requires-clause-room
relocate-requires-clause-room g c = has-room (seen c.self.inside) c.self.invariant.0 c.args.slot c.in-Some.page (sym c.in-Some.ensures) (rw (← c.self.view_is) at c.requires.room)
