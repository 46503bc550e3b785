use Rattle.std.proofs.Common.{◌≡◌, ◌≤◌, length, take}
use Rattle.shm_schedules.specs.Schedules.{replies_to}
use Rattle.shm_schedules.proofs.lines.reply_count.Given as goal

abbrev pub invariant-loop-event : goal.invariant-loop-event
invariant-loop-event l = (l.count ≤ l.event-index) × (l.count ≡ length (replies_to l.pid (take l.event-index l.events)))
