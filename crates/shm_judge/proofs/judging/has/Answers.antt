use Rattle.shm_judge.proofs.Verdicts.{key-there}
use Rattle.shm_judge.proofs.judging.has.Goals as goal

pub returns : goal.returns
returns c = key-there c.args.explored.now.keys c.args.key.now c.contains.result c.contains.ensures
