use Rattle.shm_threads.proofs.Least.{joined, refused-ends}
use Rattle.shm_threads.proofs.Names.{is_some, err_from_is_err_and}
use Rattle.shm_threads.proofs.shared.Shared.finish.Goals as goal

pub returns-in_err-complete-clause-refused : goal.returns-in_err-complete-clause-refused
returns-in_err-complete-clause-refused g c =
    let err = err_from_is_err_and c.from_residual.result c.from_residual.ensures.1 in
    rw (err.1, err.2) (rw c.in_err-complete.was at (refused-ends c.complete.result (is_some c.args.refused) c.complete.new.self.expired c.complete.ensures.ended))

pub returns-clause-joined : goal.returns-clause-joined
returns-clause-joined g c = rw c.in_ok-complete.was at (joined c.complete.result (is_some c.args.refused) c.complete.new.self.expired c.complete.ensures.ended)
