use Rattle.shm_judge.proofs.Names.{length, ◌-◌}
use Rattle.shm_judge.proofs.plan.own_line.Given as goal

abbrev pub decreases-loop-line : goal.decreases-loop-line
decreases-loop-line l = length l.entries - l.line
