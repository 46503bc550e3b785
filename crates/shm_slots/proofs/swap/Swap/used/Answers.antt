use Rattle.std.proofs.Common.{arith, ap}
use Rattle.std.proofs.lemmas.List.{take_all}
use Rattle.std.proofs.lemmas.List.Sums.{sum_by_more}
use Rattle.shm_slots.specs.Owners.{used_count}
use Rattle.shm_slots.specs.View.{used_in}
use Rattle.shm_slots.proofs.swap.Swap.used.Goals as goal

pub overflow_add-total : goal.overflow_add-total
overflow_add-total g c = omega arith

pub loop-area-preserved : goal.loop-area-preserved
loop-area-preserved g c = record {
  sum = omega (arith, ap used_count c.owners.ensures, ap used_in c.area-item.is, sum_by_more used_in c.deref-area-items.result.now c.loop-area.area-index c.area-item.result);
  small = omega arith;
}

pub returns : goal.returns
returns g c = rw (← c.self.view_is, ← c.deref-area-items.ensures.value, ← take_all c.loop-area.area-index c.deref-area-items.result.now c.loop-area-test.false) c.loop-area.invariant.sum
