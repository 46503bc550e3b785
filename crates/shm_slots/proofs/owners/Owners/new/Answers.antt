use Rattle.std.proofs.Common.{arith}
use Rattle.std.proofs.lemmas.List.{length-replicate}
use Rattle.std.proofs.lemmas.List.Folds.{sum_by-replicate}
use Rattle.std.proofs.lemmas.Grind.{common_steps}
use Rattle.shm_base.proofs.Stored.{get_or-padded}
use Rattle.shm_slots.proofs.owners.Owners.new.Goals as goal

pub invariant_of-result : goal.invariant_of-result
invariant_of-result c = rw c.in_ok-with_capacity.ensures.items (
  omega arith,
  omega (arith, c.in_ok-with_capacity.ensures.exact),
  omega (arith, c.ranges.count),
  record {
    taken = λ i. grind (arith, common_steps, c.reserve.ensures.same, c.new-numbers.ensures.free, get_or-padded);
    room = rw length-replicate (omega (arith, c.in_ok-reserve.ensures.room));
    counted = rw sum_by-replicate (omega arith);
  },
)
