use Rattle.shm_scheduled.proofs.Scheduling.{found_serial, masked_serial}
use Rattle.shm_scheduled.proofs.schedule.rerun.Goals as goal

pub returns-clause-law : goal.returns-clause-law
returns-clause-law c = λ areas. found_serial c.args.script.now areas c.args.found.now

pub returns-clause-masked : goal.returns-clause-masked
returns-clause-masked c = λ areas. masked_serial c.args.script.now areas c.args.found.now
