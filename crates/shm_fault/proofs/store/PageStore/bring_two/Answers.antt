use Rattle.shm_fault.proofs.Names.{err_from_is_err_and, None, Some, ref_of, frame_by, Visited}
use Rattle.shm_fault.proofs.Visits.{brings-two, brings-first_not, brings-second_not, unmoved}
use Rattle.shm_fault.proofs.store.PageStore.bring_two.Goals.{After-visit, After-visit-2}
use Rattle.shm_fault.proofs.store.PageStore.bring_two.Goals as goal

-- the visit to the first page, by the span that names it
near : (g : _) (c : After-visit g) → Visited (ref_of c.args.first) None (frame_by c.args.self.now (ref_of c.args.first)) c.args.self.now c.visit.new.self c.args.touched.now c.visit.new.touched c.visit.result
near g c = rw c.requires.frames.0 at (rw c.page_at-page.ensures.page at c.visit.ensures)

-- and to the second
far : (g : _) (c : After-visit-2 g) → Visited (ref_of c.args.second) (Some c.in_ok-near.near) (frame_by c.visit.new.self (ref_of c.args.second)) c.visit.new.self c.visit-2.new.self c.visit.new.touched c.visit-2.new.touched c.visit-2.result
far g c = rw c.page_at-page-2.ensures.page at (rw c.frame_now-known.ensures at c.visit-2.ensures)

pub frame_now-known-requires-clause-still : goal.frame_now-known-requires-clause-still
frame_now-known-requires-clause-still g c = λ still.
    unmoved c.args.first c.args.second c.args.self.now c.visit.new.self c.args.touched.now c.visit.new.touched _ c.requires.none (near g (goal.at.frame_now-known-requires-clause-still g c).After-visit) still c.requires.frames.1

pub returns-in_err-near : goal.returns-in_err-near
returns-in_err-near g c =
    rw (err_from_is_err_and c.from_residual.result c.from_residual.ensures.1).1
    (brings-first_not c.args.first c.args.self.now c.visit.new.self c.args.touched.now c.visit.new.touched c.requires.none c.args.second _ _ (rw c.in_err-near.was at (near g (goal.at.returns-in_err-near g c).After-visit)))

pub returns-in_err-far : goal.returns-in_err-far
returns-in_err-far g c =
    let o = goal.at.returns-in_err-far g c in
    rw (err_from_is_err_and c.from_residual-in_err-far.result c.from_residual-in_err-far.ensures.1).1
    (brings-second_not c.args.first c.args.second c.args.self.now c.visit.new.self c.visit-2.new.self c.in_ok-near.near c.args.touched.now c.visit.new.touched c.visit-2.new.touched c.requires.none
    (rw c.in_ok-near.was at (near g o.After-visit)) _ _ (rw c.in_err-far.was at (far g o.After-visit-2)))

pub returns : goal.returns
returns g c =
    let o = goal.at.returns g c in
    brings-two c.args.first c.args.second c.args.self.now c.visit.new.self c.visit-2.new.self c.in_ok-near.near c.args.touched.now c.visit.new.touched c.visit-2.new.touched c.requires.none
    (rw c.in_ok-near.was at (near g o.After-visit)) c.in_ok-far.far (rw c.in_ok-far.was at (far g o.After-visit-2))
