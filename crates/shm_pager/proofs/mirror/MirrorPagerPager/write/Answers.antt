use Rattle.std.proofs.Common.{arith, rules, refl}
use Rattle.std.proofs.lemmas.Grind.{common_steps}
use Rattle.shm_pager.proofs.Merged.{length-merged, unknown-merged, merged-written}
use Rattle.shm_pager.proofs.mirror.MirrorPagerPager.write.Goals as goal

pub returns-then-left : goal.returns-then-left
returns-then-left g c = record {
  others = grind (arith, common_steps, length-merged, unknown-merged);
  page = grind (arith, common_steps, length-merged, merged-written);
  failed = search rules;
  cause = grind (arith, common_steps);
  left = search rules;
  right = search rules;
  good = rw (← c.self.view_is, c.is_ok-left.ensures.value, c.is_ok-right.ensures.value, c.try_write.ensures.ok, c.try_write-2.ensures.ok) refl;
}

pub returns : goal.returns
returns g c = record {
  others = grind (arith, common_steps, length-merged, unknown-merged);
  page = search rules;
  failed = search rules;
  cause = rw (← c.self.view_is, ← c.try_write.ensures.ok, ← c.try_write-2.ensures.ok, ← c.is_ok-left.ensures.value, ← c.is_ok-right.ensures.value, c.if-left.false, c.if-right.false) refl;
  left = search rules;
  right = search rules;
  good = rw (← c.self.view_is, c.is_ok-left.ensures.value, c.is_ok-right.ensures.value, c.try_write.ensures.ok, c.try_write-2.ensures.ok) refl;
}

pub invariant_of-self : goal.invariant_of-self
invariant_of-self g c = grind (arith, common_steps)

pub invariant_of-self-2 : goal.invariant_of-self-2
invariant_of-self-2 g c = grind (arith, common_steps)
