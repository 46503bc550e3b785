use Rattle.shm_judge.proofs.Names.{rules, IsPermutation-swap}
use Rattle.shm_judge.proofs.judging.put_nearest.Goals as goal

pub returns-then-found-len : goal.returns-then-found-len
returns-then-found-len g c =
    IsPermutation-swap c.args.offered.now.items c.swap.new.self.items c.args.place c.nearest-found.result (search rules) (search rules) c.swap.ensures.items
