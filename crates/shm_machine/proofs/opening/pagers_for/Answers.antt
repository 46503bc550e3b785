use Rattle.shm_machine.proofs.Sizes.{made-next}
use Rattle.shm_machine.proofs.opening.pagers_for.Goals as goal

pub loop-index-preserved : goal.loop-index-preserved
loop-index-preserved c =
    rw c.in_ok-push.ensures.items (made-next c.args.failures.now c.args.areas.now c.loop-index.index c.loop-index.pagers.items _ _ c.loop-index-test.true c.loop-index.invariant c.in_ok-pager_for.ensures)
