use Rattle.std.proofs.Common.{◌≤◌, ◌-◌, length}
use Rattle.shm_clock.proofs.Asking.{IsAsked}
use Rattle.shm_clock.proofs.clock.next_victim.Given as goal

abbrev pub ghost-may_go : goal.ghost-may_go
ghost-may_go g a = g.passes

abbrev pub invariant-loop-step : goal.invariant-loop-step
invariant-loop-step g l = IsAsked g.passes l.pinned l.hand l.frames l.step l.first
    × (l.step ≤ length l.frames)
    × (l.looks ≤ l.step)

abbrev pub decreases-loop-step : goal.decreases-loop-step
decreases-loop-step g l = l.count - l.step
