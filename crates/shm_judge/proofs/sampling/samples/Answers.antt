use Rattle.shm_judge.proofs.Names.{fresh}
use Rattle.shm_judge.proofs.Drawing.{samples-more}
use Rattle.shm_judge.proofs.sampling.samples.Goals as goal

pub loop-done-preserved : goal.loop-done-preserved
loop-done-preserved g c =
    samples-more c.args.script.now (fresh (g.M.Engine.flat c.args.machine.now)) c.loop-done.done (g.R.Rng.stream c.args.rng.now) (g.R.Rng.stream c.loop-done.rng) (g.R.Rng.stream c.put_sample.new.rng) c.loop-done.text.items c.put_sample.new.text.items c.loop-done.invariant c.in_ok-put_sample.ensures
