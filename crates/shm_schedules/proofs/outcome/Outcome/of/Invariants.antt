use Rattle.std.proofs.Common.{◌≡◌, take, map}
use Rattle.shm_schedules.specs.Outcomes.{masked_replies}
use Rattle.shm_schedules.proofs.outcome.Outcome.of.Given as goal

abbrev pub invariant-loop-process : goal.invariant-loop-process
invariant-loop-process l = l.all.items ≡ map (masked_replies l.events) (take l.process-index l.script.processes)
