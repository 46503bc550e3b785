use Rattle.std.proofs.Common.{◌≡◌, take}
use Rattle.shm_schedules.specs.Outcomes.{masked_replies}
use Rattle.shm_schedules.proofs.outcome.masked_replies.Given as goal

abbrev pub invariant-loop-event : goal.invariant-loop-event
invariant-loop-event l = l.replies.items ≡ masked_replies (take l.event-index l.events) l.process
