use Rattle.std.proofs.Common.{◌≤◌, ◌-◌, length}
use Rattle.shm_clock.specs.Skips.{AreSkipped}
use Rattle.shm_clock.proofs.Turning.{IsOnWay}
use Rattle.shm_clock.proofs.clock.turn.Given as goal

abbrev pub ghost-may_go : goal.ghost-may_go
ghost-may_go g a = g.passes

abbrev pub ghost-stride : goal.ghost-stride
ghost-stride g a = g.passes

abbrev pub invariant-loop-step : goal.invariant-loop-step
invariant-loop-step g l = IsOnWay g.passes l.pinned l.hand l.initial.frames l.initial.looks l.step l.frames l.first l.looks
    × (l.step ≤ length l.initial.frames)
    × AreSkipped g.passes l.frames l.skips

abbrev pub decreases-loop-step : goal.decreases-loop-step
decreases-loop-step g l = l.count - l.step
