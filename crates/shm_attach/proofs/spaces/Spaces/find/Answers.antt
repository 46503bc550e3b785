use Rattle.shm_attach.proofs.Names.{sym, arith, common_steps}
use Rattle.shm_attach.proofs.Joining.{standing-position, standing-absent}
use Rattle.shm_attach.proofs.spaces.Spaces.find.Goals as goal

pub returns-in_err-index-clause-none : goal.returns-in_err-index-clause-none
returns-in_err-index-clause-none c = grind (arith, common_steps, standing-absent)

pub returns-clause-some : goal.returns-clause-some
returns-clause-some c =
    rw (← c.self.view_is)
    (standing-position c.args.pid c.in_ok-index.index c.self.inside.processes.entries (c.in_ok-index.field-0-1.now, c.in_ok-index.runner.now) (sym c.in_ok-index.ensures.index)
    c.in_ok-index.ensures.entry)
