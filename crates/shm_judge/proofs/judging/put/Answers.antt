use Rattle.shm_judge.proofs.Names.{◌∙◌}
use Rattle.shm_judge.proofs.Verdicts.{key-last}
use Rattle.shm_judge.proofs.judging.put.Goals as goal

pub returns : goal.returns
returns c = c.in_ok-insert.ensures.keys ∙ key-last c.args.explored.now.keys c.args.key c.requires.new
