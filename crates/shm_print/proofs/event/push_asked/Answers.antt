use Rattle.shm_print.proofs.Pushed.{asked_pushed}
use Rattle.shm_print.proofs.event.push_asked.Goals as goal

pub returns : goal.returns
returns c =
    asked_pushed c.push_str.result c.args.event.now _ _ _ _ c.in_ok-push_process.ensures c.in_ok-push_call.ensures c.push_str.ensures.bytes
