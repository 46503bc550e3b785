use Rattle.shm_fault.proofs.Names.{◌≡◌, ◌∙◌, sym, no_page, rec_by, Given, IsStoreSound, unlocked, seen, Forgets}
use Rattle.shm_fault.proofs.Skipped.{skipped-emptied, skipped-with}
use Rattle.shm_fault.proofs.Sound.{frame-own, slot-own}
use Rattle.shm_fault.proofs.Drops.{forgets, forgets-nowhere}
use Rattle.shm_fault.proofs.Untouched.{nowhere}
use Rattle.shm_fault.proofs.store.PageStore.forget.Goals.{After-set_page}
use Rattle.shm_fault.proofs.store.PageStore.forget.Goals as goal

done : (g : _) (c : After-set_page g)
    → IsStoreSound (record (seen c.self.inside) { segs = c.set_page.new.self; frames = c.empty_frame.new.frames; swap = c.free_slot.new.swap })
    × Forgets c.args.page (seen c.self.inside) (record (seen c.self.inside) { segs = c.set_page.new.self; frames = c.empty_frame.new.frames; swap = c.free_slot.new.swap })
done g c =
    let i = c.self.inside in
    let e = c.free_slot.ensures in
    let slot : Given i.swap (rec_by i.segs c.args.page).slot c.free_slot.new.swap = rw c.page-place.ensures at e.given in
    rw (c.set_page.ensures, c.empty_frame.ensures, c.page-place.ensures)
    (forgets (seen i) c.self.invariant.0 c.args.page (rw (← c.self.view_is) at c.requires) c.free_slot.new.swap slot e.sound e.steady)

pub empty_frame-requires : goal.empty_frame-requires
empty_frame-requires g c = λ f e. (frame-own (seen c.self.inside) c.self.invariant.0 c.args.page f (rw c.page-place.ensures at e)).0

pub free_slot-requires-clause-there : goal.free_slot-requires-clause-there
free_slot-requires-clause-there g c = λ k e. (slot-own (seen c.self.inside) c.self.invariant.0 c.args.page k (rw c.page-place.ensures at e)).0

pub invariant_of-self : goal.invariant_of-self
invariant_of-self g c =
    let i = c.self.inside in (
      (done g c).0,
      rw (c.set_page.ensures, c.empty_frame.ensures)
          (skipped-with i.segs c.args.page _ _ i.skips (skipped-emptied (unlocked i.segs) i.frames i.skips c.self.invariant.1 c.page-place.result.frame)),
    )

pub returns : goal.returns
returns g c = rw (← c.self.view_is) (done g (goal.at.returns g c).After-set_page).1

pub returns-then-eq : goal.returns-then-eq
returns-then-eq g c =
    let place : c.page-place.result ≡ no_page = nowhere _ c.page-place.result (sym c.eq.ensures ∙ c.if-eq.true) in
    rw (← c.self.view_is) (forgets-nowhere (seen c.self.inside) c.args.page c.self.invariant.0.apart (sym c.page-place.ensures ∙ place))
