use Rattle.shm_fault.proofs.Names.{err_from_is_err_and}
use Rattle.shm_fault.proofs.Visits.{acts-done, acts-failed}
use Rattle.shm_fault.proofs.store.PageStore.access.Goals as goal

pub returns : goal.returns
returns g c =
    let brings = c.in_ok-here.ensures.brings in
    acts-done c.args.spans.now c.args.self.now c.bring_spans.new.self c.act.new.self c.bring_spans.new.touched c.in_ok-here.here _ _ c.requires.spans.few brings c.bring_spans.ensures.sound c.act.ensures.there _ _ (rw brings.goes.bytes at c.act.ensures.put)

pub returns-in_err-here : goal.returns-in_err-here
returns-in_err-here g c =
    rw (err_from_is_err_and c.from_residual.result c.from_residual.ensures.1).1
    (acts-failed c.args.spans.now c.args.self.now c.bring_spans.new.self c.bring_spans.new.touched _ _ _ _ c.bring_spans.ensures.sound c.in_err-here.ensures.brings)
