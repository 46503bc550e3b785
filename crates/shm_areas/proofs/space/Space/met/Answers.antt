use Rattle.shm_areas.proofs.Names.{arith, common_steps}
use Rattle.shm_areas.proofs.Cuts.{slice-met, occupied-met}
use Rattle.shm_areas.proofs.space.Space.met.Goals as goal

pub returns-clause-value : goal.returns-clause-value
returns-clause-value c = grind (arith, common_steps, slice-met)

pub returns-clause-occupied : goal.returns-clause-occupied
returns-clause-occupied c = grind (arith, common_steps, returns-clause-value, occupied-met)
