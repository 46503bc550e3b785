use Rattle.shm_areas.proofs.Names.{arith, common_steps, length-map}
use Rattle.shm_areas.proofs.Edits.{bare_cut}
use Rattle.shm_areas.proofs.space.Space.count_outside.Goals as goal

pub returns : goal.returns
returns c = grind (arith, common_steps, length-map, bare_cut)
