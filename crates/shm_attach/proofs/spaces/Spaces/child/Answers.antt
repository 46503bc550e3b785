use Rattle.shm_attach.proofs.Names.{◌≡◌, sym, arith, common_steps, if◌then◌else◌, is_unborn, unborn_from, Some, None, life_view, runners_view}
use Rattle.shm_attach.proofs.Callers.{unborn_from-position, unborn_from-absent, not_unborn}
use Rattle.shm_attach.proofs.spaces.Spaces.child.Goals.{In_ok-index}
use Rattle.shm_attach.proofs.spaces.Spaces.child.Goals as goal

from : (c : In_ok-index)
    → unborn_from 0 c.args.pid (runners_view c.self.inside.processes.entries) ≡ (if is_unborn (life_view c.in_ok-index.runner.now.life) then Some c.in_ok-index.index else None)
from c =
    unborn_from-position c.args.pid c.in_ok-index.index c.self.inside.processes.entries (c.in_ok-index.field-0-1.now, c.in_ok-index.runner.now) (sym c.in_ok-index.ensures.index)
    c.in_ok-index.ensures.entry

pub returns-in_err-index-clause-none : goal.returns-in_err-index-clause-none
returns-in_err-index-clause-none c = grind (arith, common_steps, unborn_from-absent)

pub returns-in-Unborn-clause-unborn : goal.returns-in-Unborn-clause-unborn
returns-in-Unborn-clause-unborn c = rw (← c.self.view_is) (rw c.in-Unborn.is at (from (goal.at.returns-in-Unborn-clause-unborn c).In_ok-index))

pub returns-in_default-clause-none : goal.returns-in_default-clause-none
returns-in_default-clause-none c = grind (arith, common_steps, not_unborn, from)
