use Rattle.shm_attach.proofs.Names.{◌≡◌, sym, arith, common_steps, caller_by, caller_from, bare_all, life_view, runners_view}
use Rattle.shm_attach.proofs.HavingTables.{pieces_at-entry}
use Rattle.shm_attach.proofs.Callers.{caller_from-position, caller_from-absent, not_live}
use Rattle.shm_attach.proofs.spaces.Spaces.caller.Goals.{In_ok-index}
use Rattle.shm_attach.proofs.spaces.Spaces.caller.Goals as goal

from : (c : In_ok-index)
    → caller_from 0 c.args.pid (runners_view c.self.inside.processes.entries)
    ≡ caller_by c.in_ok-index.index c.args.pid (bare_all c.in_ok-index.runner.now.space.pieces) (life_view c.in_ok-index.runner.now.life)
from c =
    caller_from-position c.args.pid c.in_ok-index.index c.self.inside.processes.entries (c.in_ok-index.field-0-1.now, c.in_ok-index.runner.now) (sym c.in_ok-index.ensures.index)
    c.in_ok-index.ensures.entry

pub returns-in_err-index-clause-none : goal.returns-in_err-index-clause-none
returns-in_err-index-clause-none c = grind (arith, common_steps, caller_from-absent)

pub returns-in-Live-clause-live : goal.returns-in-Live-clause-live
returns-in-Live-clause-live c =
    let shown = pieces_at-entry c.self.inside.processes.entries c.in_ok-index.index (c.in_ok-index.field-0-1.now, c.in_ok-index.runner.now) c.in_ok-index.ensures.entry in
    rw (← c.self.view_is, shown) (rw c.in-Live.is at (from (goal.at.returns-in-Live-clause-live c).In_ok-index))

pub returns-in_default-clause-none : goal.returns-in_default-clause-none
returns-in_default-clause-none c = grind (arith, common_steps, not_live, from)
