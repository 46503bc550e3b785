use Rattle.shm_attach.proofs.Names.{◌≡◌, ℕ, Some, slice_get, sym, Runner}
use Rattle.shm_attach.proofs.HavingTables.{pieces_at-entry}
use Rattle.shm_attach.proofs.Callers.{caller_from-own}
use Rattle.shm_attach.proofs.spaces.Spaces.caller_at.Goals as goal

pub returns-clause-live : goal.returns-clause-live
returns-clause-live c =
    let es = c.self.inside.processes.entries in
    let e : ℕ × Runner = (c.in_ok-key.key.now, c.in_ok-key.runner.now) in
    let at : slice_get es c.args.index ≡ Some e = rw c.as_slice.ensures.entries at (sym c.in_ok-key.ensures.entry) in
    let same : c.in_ok-key.key.now ≡ c.args.pid = c.if-key-pid.false in
    rw (← c.self.view_is, pieces_at-entry es c.args.index e at) (rw (same, c.in-Live.is) at (caller_from-own c.args.index es e c.as_slice.ensures.unique at))
