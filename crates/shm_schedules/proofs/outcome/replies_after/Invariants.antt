use Rattle.std.proofs.Common.{◌≡◌, take}
use Rattle.shm_schedules.specs.Outcomes.{replies_after}
use Rattle.shm_schedules.proofs.outcome.replies_after.Given as goal

abbrev pub invariant-loop-index : goal.invariant-loop-index
invariant-loop-index l = l.all.items ≡ replies_after (take l.index l.processes) l.event l.replies
