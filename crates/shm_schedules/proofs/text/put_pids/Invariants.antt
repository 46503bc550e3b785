use Rattle.std.proofs.Common.{◌≡◌, ◌++◌, take, flat_map}
use Rattle.shm_schedules.specs.Schedules.{schedule_of}
use Rattle.shm_schedules.specs.Text.{pid_text}
use Rattle.shm_schedules.proofs.text.put_pids.Given as goal

abbrev pub invariant-loop-event : goal.invariant-loop-event
invariant-loop-event l = l.text.items ≡ l.initial.text.items ++ flat_map pid_text (schedule_of (take l.event-index l.events))
