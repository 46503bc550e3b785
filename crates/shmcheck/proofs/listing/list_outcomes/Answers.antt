use Rattle.std.proofs.Common.{[], refl}
use Rattle.shmcheck.specs.Runs.{one_area}
use Rattle.shmcheck.proofs.Stops.{bound_stop}
use Rattle.shmcheck.proofs.Texts.{listed}
use Rattle.shmcheck.proofs.listing.list_outcomes.Goals as goal

pub returns-in-Err-clause-cause : goal.returns-in-Err-clause-cause
returns-in-Err-clause-cause c =
    rw c.stopped.ensures
    (bound_stop c.in-Err.error c.args.options [] one_area c.args.script.now c.in_ok-machine.machine.machine c.in_ok-machine.ensures.machine c.in-Err.ensures.err)

pub returns-clause-ok : goal.returns-clause-ok
returns-clause-ok c = (
  refl,
  listed c.args.options.masked c.args.script.now one_area c.in_ok-machine.machine.machine c.in-Ok.found.items c.deref.result.now c.in_ok-text.text.items c.in_ok-machine.ensures.machine c.deref.ensures.value
      c.in-Ok.ensures.ok c.in_ok-text.ensures,
)
