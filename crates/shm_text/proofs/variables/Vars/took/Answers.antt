use Rattle.shm_text.proofs.Names.{arith, common_steps}
use Rattle.shm_text.proofs.variables.Vars.took.Goals as goal

pub returns-in-Some : goal.returns-in-Some
returns-in-Some c = grind (arith, common_steps)
