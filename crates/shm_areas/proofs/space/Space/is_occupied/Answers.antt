use Rattle.shm_areas.proofs.Names.{arith, common_steps}
use Rattle.shm_areas.proofs.Cuts.{occupied-run}
use Rattle.shm_areas.proofs.Placing.{free_beyond}
use Rattle.shm_areas.proofs.space.Space.is_occupied.Goals as goal

pub returns-then-base-ge-END_ADDRESS : goal.returns-then-base-ge-END_ADDRESS
returns-then-base-ge-END_ADDRESS c = grind (arith, common_steps, free_beyond)

pub returns : goal.returns
returns c = grind (arith, common_steps, occupied-run)
