use Rattle.std.proofs.Common.{arith, ◌≡◌, ℕ, Option, Some, None, refl, ap}
use Rattle.std.specs.Option.{unwrap_or}
use Rattle.std.proofs.lemmas.List.{map_more, take_all}
use Rattle.std.proofs.lemmas.List.Sums.{sum_by_push}
use Rattle.shm_slots.specs.View.{size_of, slots_in}
use Rattle.shm_slots.proofs.swap.Swap.capacity.Goals as goal

slots_in_or : (o : Option ℕ) → unwrap_or o 0 ≡ slots_in o
slots_in_or None = refl
slots_in_or (Some n) = refl

pub overflow_add-total : goal.overflow_add-total
overflow_add-total g c = omega arith

pub loop-area-preserved : goal.loop-area-preserved
loop-area-preserved g c = record {
  sum = rw (map_more size_of c.deref-area-items.result.now c.loop-area.area-index c.area-item.result c.loop-area-test.true, sum_by_push slots_in, ← c.area-item.is) (omega (arith, slots_in_or c.size.result, ap slots_in c.size.ensures));
  small = omega arith;
}

pub returns : goal.returns
returns g c = rw (← c.self.view_is, ← c.deref-area-items.ensures.value, ← take_all c.loop-area.area-index c.deref-area-items.result.now c.loop-area-test.false) c.loop-area.invariant.sum
