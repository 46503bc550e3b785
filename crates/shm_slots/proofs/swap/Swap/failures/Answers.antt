use Rattle.std.proofs.Common.{arith, ap}
use Rattle.std.proofs.lemmas.List.{take_all}
use Rattle.std.proofs.lemmas.List.Elements.{All-more}
use Rattle.std.proofs.lemmas.List.Sums.{sum_by_more}
use Rattle.shm_slots.specs.View.{rise, IsCounted}
use Rattle.shm_slots.specs.Cause.{total}
use Rattle.shm_slots.proofs.swap.Swap.failures.Goals as goal

pub loop-area-preserved : goal.loop-area-preserved
loop-area-preserved g c = record {
  total = omega (arith, ap rise c.area-item.is, sum_by_more rise c.deref-area-items.result.now c.loop-area.area-index c.area-item.result);
  counted = All-more (IsCounted g.P.Pager.failed) c.deref-area-items.result.now c.loop-area.area-index c.area-item.result c.loop-area-test.true c.loop-area.invariant.counted (rw (← c.area-item.is) c.rise.ensures.counted);
}

pub returns-clause-value : goal.returns-clause-value
unfolding total
returns-clause-value g c = rw (← c.self.view_is, ← c.deref-area-items.ensures.value, ← take_all c.loop-area.area-index c.deref-area-items.result.now c.loop-area-test.false) c.loop-area.invariant.total

pub returns-clause-counted : goal.returns-clause-counted
returns-clause-counted g c = rw (← c.self.view_is, ← c.deref-area-items.ensures.value, ← take_all c.loop-area.area-index c.deref-area-items.result.now c.loop-area-test.false) c.loop-area.invariant.counted

pub returns-clause-sound : goal.returns-clause-sound
returns-clause-sound g c = rw (← c.self.view_is) c.self.invariant
