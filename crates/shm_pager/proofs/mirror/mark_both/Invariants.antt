use Rattle.std.proofs.Common.{◌≡◌, take, replicate}
use Rattle.shm_pager.specs.Mirror.{both_sides}
use Rattle.shm_pager.proofs.mirror.mark_both.Given as goal

abbrev pub invariant-loop-mark : goal.invariant-loop-mark
invariant-loop-mark l = take l.mark-index l.mark-items ≡ replicate l.mark-index both_sides
