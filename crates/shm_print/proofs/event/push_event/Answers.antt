use Rattle.shm_print.proofs.Pushed.{event_pushed}
use Rattle.shm_print.proofs.event.push_event.Goals as goal

pub returns : goal.returns
returns c =
    event_pushed c.push_str-2.result c.args.place c.args.event.now _ _ _ _ _ _ c.in_ok-push_number.ensures c.in_ok-push_str.ensures.bytes c.in_ok-push_asked.ensures c.in_ok-push_reply.ensures c.push_str-2.ensures.bytes
