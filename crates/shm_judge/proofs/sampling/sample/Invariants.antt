use Rattle.shm_judge.proofs.Names.{LeadsDrawn, fresh, schedule_of}
use Rattle.shm_judge.proofs.Drawing.{lines_left}
use Rattle.shm_judge.proofs.sampling.sample.Given as goal

abbrev pub invariant-loop-run : goal.invariant-loop-run
invariant-loop-run g l =
    LeadsDrawn l.script (schedule_of l.run.events) (fresh (g.M.Engine.flat l.fn.machine)) l.run (g.R.Rng.stream l.initial.rng) (g.R.Rng.stream l.rng)

abbrev pub decreases-loop-run : goal.decreases-loop-run
decreases-loop-run g l = lines_left l.script l.script.processes l.run
