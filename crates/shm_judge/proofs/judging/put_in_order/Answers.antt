use Rattle.shm_judge.proofs.Names.{IsPermutation-refl, IsPermutation-trans}
use Rattle.shm_judge.proofs.judging.put_in_order.Goals as goal

pub loop-place-init : goal.loop-place-init
loop-place-init g c = IsPermutation-refl c.args.offered.now.items

pub loop-place-preserved : goal.loop-place-preserved
loop-place-preserved g c =
    IsPermutation-trans c.args.offered.now.items c.loop-place.offered.items c.put_nearest.new.offered.items c.loop-place.invariant c.put_nearest.ensures
