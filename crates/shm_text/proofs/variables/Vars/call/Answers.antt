use Rattle.shm_text.proofs.Names.{refl}
use Rattle.shm_text.proofs.variables.Vars.call.Goals as goal

pub returns-in-Exec : goal.returns-in-Exec
returns-in-Exec c = rw (← c.call.ensures.value, c.in-Exec.is) refl
