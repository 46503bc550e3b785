use Rattle.shm_machine.proofs.Fitting.{move_fits}
use Rattle.shm_machine.proofs.machine.Machine.answer.Goals as goal

pub returns-in-None-clause-fits : goal.returns-in-None-clause-fits
returns-in-None-clause-fits c = move_fits _ _ _ _ c.in-Ok.ensures.ok.move c.in-None.ensures
