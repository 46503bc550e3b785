use Rattle.shm_text.proofs.Names.{refl}
use Rattle.shm_text.proofs.variables.Vars.new.Goals as goal

pub returns : goal.returns
returns c = refl
