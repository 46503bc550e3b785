use Rattle.std.proofs.Common.{◌≡◌, drop}
use Rattle.shm_schedules.specs.Schedules.{walked}
use Rattle.shm_schedules.proofs.runs.Run.walk.Given as goal

abbrev pub invariant-loop-pid : goal.invariant-loop-pid
invariant-loop-pid g l = walked l.script l.pids l.self ≡ walked l.script (drop l.pid-index l.pids) l.run
