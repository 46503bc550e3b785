use Rattle.std.proofs.Common.{◌≡◌, replicate}
use Rattle.shm_pager.specs.Mirror.{left_alone}
use Rattle.shm_pager.proofs.mirror.left_good.Given as goal

abbrev pub invariant-loop-i : goal.invariant-loop-i
invariant-loop-i l = l.good.items ≡ replicate l._i left_alone
