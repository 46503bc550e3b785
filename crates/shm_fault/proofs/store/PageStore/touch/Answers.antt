use Rattle.shm_fault.proofs.Names.{true, ◌≡◌, ◌<◌, length, refl, Some, get_or-set_same, arith, frame_at, common_steps, nat_tests, inl, unlocked, seen}
use Rattle.shm_fault.proofs.Skipped.{skipped-set}
use Rattle.shm_fault.proofs.Sound.{frame-own}
use Rattle.shm_fault.proofs.Visits.{IsStep, step-touch}
use Rattle.shm_fault.proofs.Places.{referenced-set}
use Rattle.shm_fault.proofs.store.PageStore.touch.Goals.{After-self, After-set_referenced}
use Rattle.shm_fault.proofs.store.PageStore.touch.Goals as goal

own : (g : _) (c : After-self g) → (c.args.frame < length c.self.inside.frames) × ((frame_at c.self.inside.frames c.args.frame).owner ≡ Some c.args.page)
own g c = frame-own (seen c.self.inside) c.self.invariant.0 c.args.page c.args.frame (rw (← c.self.view_is) at c.requires.here)

step : (g : _) (c : After-set_referenced g) → IsStep (seen c.self.inside) (record (seen c.self.inside) { frames = c.set_referenced.new.self })
step g c =
    let there = (own g (goal.at.invariant_of-self g c).After-self).0 in
    rw c.set_referenced.ensures (step-touch (seen c.self.inside) c.self.invariant.0 c.args.frame there)

pub invariant_of-self : goal.invariant_of-self
invariant_of-self g c =
    let i = c.self.inside in
    ((step g c).sound, rw c.set_referenced.ensures (skipped-set (unlocked i.segs) i.frames i.skips c.self.invariant.1 c.args.frame (record (frame_at i.frames c.args.frame) { referenced = true }) (inl refl)))

pub returns-clause-bit : goal.returns-clause-bit
returns-clause-bit g c = grind (arith, nat_tests, common_steps, c.self.inside.frames, c.args.frame, own, c.set_referenced.ensures, get_or-set_same)

pub returns-clause-visits : goal.returns-clause-visits
returns-clause-visits g c = rw (← c.self.view_is) ((step g c).visits c.args.page)

pub returns-clause-placed : goal.returns-clause-placed
returns-clause-placed g c =
    let s = seen c.self.inside in
    rw (← c.self.view_is) (referenced-set s (record s { frames = c.set_referenced.new.self }) c.args.frame refl c.set_referenced.ensures)
