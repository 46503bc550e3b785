use Rattle.shm_judge.proofs.Names.{IsPermutation}
use Rattle.shm_judge.proofs.judging.put_in_order.Given as goal

abbrev pub invariant-loop-place : goal.invariant-loop-place
invariant-loop-place g l = IsPermutation l.initial.offered.items l.offered.items
