use Rattle.shm_program.proofs.Names.{arith, take_all, IsAreaOf}
use Rattle.shm_program.proofs.Named.{named}
use Rattle.shm_program.proofs.Zipped.{zipped-more}
use Rattle.shm_program.proofs.areas.areas_of.Goals as goal

pub loop-swap-preserved : goal.loop-swap-preserved
loop-swap-preserved c =
    let at = c.loop-swap in
    rw c.in_ok-push.ensures.items (zipped-more IsAreaOf c.args.swaps.now at.pagers.items at.swap-index _ _ (omega arith) at.invariant c.in_ok-area_of.ensures)

pub returns-clause-seen : goal.returns-clause-seen
returns-clause-seen c =
    let at = c.loop-swap in
    named c.args.swaps.now at.pagers.items (rw (take_all at.swap-index c.args.swaps.now (omega arith)) at at.invariant)
