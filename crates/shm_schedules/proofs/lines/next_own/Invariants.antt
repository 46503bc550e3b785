use Rattle.std.proofs.Common.{◌≡◌, ◌≤◌, ◌-◌, length, drop}
use Rattle.shm_base.specs.History.{own_part}
use Rattle.shm_schedules.proofs.lines.next_own.Given as goal

abbrev pub invariant-loop-next : goal.invariant-loop-next
invariant-loop-next l = (l.next ≤ length l.events) × (own_part l.pid (drop l.next l.events) ≡ own_part l.pid (drop l.fn.from l.events))

abbrev pub decreases-loop-next : goal.decreases-loop-next
decreases-loop-next l = length l.events - l.next
