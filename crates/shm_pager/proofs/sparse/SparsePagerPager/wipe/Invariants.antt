use Rattle.std.proofs.Common.{◌≡◌, None, take, replicate}
use Rattle.shm_pager.proofs.sparse.SparsePagerPager.wipe.Given as goal

abbrev pub invariant-loop-place : goal.invariant-loop-place
invariant-loop-place l = take l.place-index l.place-items ≡ replicate l.place-index None
