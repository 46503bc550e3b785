use Rattle.shm_scheduled.proofs.Scheduling.{are_scheduled, printed_scheduled}
use Rattle.shm_scheduled.proofs.schedule.scheduled.Goals as goal

pub returns-clause-law : goal.returns-clause-law
returns-clause-law g c = rw c.history.ensures.events (are_scheduled c.args.script.now c.args.outcome.now.world c.args.outcome.now.transcripts.items c.history.ensures.legal)

pub returns-clause-printed : goal.returns-clause-printed
returns-clause-printed g c = λ swap areas text out none. printed_scheduled g.P.Pager.failed swap c.args.script.now areas text out none
