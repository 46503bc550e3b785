use Rattle.std.proofs.Common.{Err, Ok, inr, refl}
use Rattle.shmsim.proofs.Sizes.{run-named}
use Rattle.shmsim.proofs.runs.run_asked.Goals as goal

pub returns-in-Ok-run_over : goal.returns-in-Ok-run_over
returns-in-Ok-run_over g c =
    inr (Ok tt, refl, run-named c.args.asked.now.mode c.in-Ok.pagers.items c.args.asked.now.swaps.items (Ok tt) _ _ _ _ (rw c.deref.ensures.value at c.in-Ok.ensures.seen) c.in-Ok-run_over.ensures)

pub returns-in-Err-run_over : goal.returns-in-Err-run_over
returns-in-Err-run_over g c =
    inr (Err c.in-Err-run_over.fault, refl, run-named c.args.asked.now.mode c.in-Ok.pagers.items c.args.asked.now.swaps.items (Err c.in-Err-run_over.fault) _ _ _ _ (rw c.deref.ensures.value at c.in-Ok.ensures.seen) c.in-Err-run_over.ensures)
