use Rattle.std.proofs.Common.{inr}
use Rattle.shmview.proofs.Named.{view-named}
use Rattle.shmview.proofs.runs.run_asked.Goals as goal

pub returns-in-Ok : goal.returns-in-Ok
returns-in-Ok g c =
    inr (view-named c.args.asked.now.steps c.in-Ok.pagers.items c.args.asked.now.swaps.items c.view.result _ _ _ _ (rw c.deref.ensures.value at c.in-Ok.ensures.seen) c.view.ensures)
