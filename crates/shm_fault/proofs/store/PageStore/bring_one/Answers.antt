use Rattle.shm_fault.proofs.Names.{err_from_is_err_and, None, ref_of, frame_by, Visited}
use Rattle.shm_fault.proofs.Visits.{brings-one, brings-not}
use Rattle.shm_fault.proofs.store.PageStore.bring_one.Goals.{After-visit}
use Rattle.shm_fault.proofs.store.PageStore.bring_one.Goals as goal

visited : (g : _) (c : After-visit g) → Visited (ref_of c.args.first.now) None (frame_by c.args.self.now (ref_of c.args.first.now)) c.args.self.now c.visit.new.self c.args.touched.now c.visit.new.touched c.visit.result
visited g c = rw c.requires.frame at (rw c.page_at-page.ensures.page at c.visit.ensures)

pub returns : goal.returns
returns g c =
    brings-one c.args.first.now c.args.self.now c.visit.new.self c.args.touched.now c.visit.new.touched c.requires.none c.in_ok-frame.frame (rw c.in_ok-frame.was at (visited g (goal.at.returns g c).After-visit))

pub returns-in_err-frame : goal.returns-in_err-frame
returns-in_err-frame g c =
    rw (err_from_is_err_and c.from_residual.result c.from_residual.ensures.1).1
    (brings-not c.args.first.now c.args.self.now c.visit.new.self c.args.touched.now c.visit.new.touched c.requires.none _ _ (rw c.in_err-frame.was at (visited g (goal.at.returns-in_err-frame g c).After-visit)))
