use Rattle.shm_judge.proofs.Names.{AreSamples, fresh}
use Rattle.shm_judge.proofs.sampling.samples.Given as goal

abbrev pub invariant-loop-done : goal.invariant-loop-done
invariant-loop-done g l =
    AreSamples l.script (fresh (g.M.Engine.flat l.machine)) l.done (g.R.Rng.stream l.initial.rng) (g.R.Rng.stream l.rng) l.text.items
