use Rattle.std.proofs.Common.{◌≡◌, ◌++◌, take}
use Rattle.shm_schedules.specs.Schedules.{followers}
use Rattle.shm_schedules.proofs.followers.push_followers.Given as goal

abbrev pub invariant-loop-process : goal.invariant-loop-process
invariant-loop-process g l = l.runs.items ≡ l.initial.runs.items ++ followers l.script (take l.process-index l.script.processes) l.run
