use Rattle.shm_fault.proofs.Names.{sym, ◌∙◌}
use Rattle.shm_fault.proofs.Visits.{visited-touched}
use Rattle.shm_fault.proofs.store.PageStore.visit.Goals as goal

pub returns-in-Some : goal.returns-in-Some
returns-in-Some g c =
    let e = c.touch.ensures in
    rw c.in-Some.is (visited-touched c.args.page c.args.pinned c.in-Some.frame c.args.self.now c.touch.new.self c.args.touched.now (sym c.in-Some.is ∙ c.requires.known) (e.visits c.args.pinned) e.rest e.bit e.placed)

pub returns-in-None : goal.returns-in-None
returns-in-None g c = rw c.in-None.is c.fault.ensures
