use Rattle.std.proofs.Common.{arith, refl, sym}
use Rattle.std.proofs.lemmas.List.{length-replicate}
use Rattle.shm_slots.proofs.area.Area.new.Goals as goal

pub returns-clause-sound : goal.returns-clause-sound
returns-clause-sound g c = record {
  small = c.requires;
  owned = rw (c.in_ok-owners.ensures, length-replicate) c.slots.ensures;
  gone = λ e. (cc);
  begun = omega arith;
  countable = omega arith;
  bounded = c.failures-start.ensures.bounded;
}

pub invariant_of-result : goal.invariant_of-result
invariant_of-result g c =
    (returns-clause-sound g c, (c.args.pager, sym c.failures-start.ensures.count), (c.args.pager, sym c.failures-start.ensures.count))

pub returns-clause-made : goal.returns-clause-made
returns-clause-made g c = rw (c.in_ok-owners.ensures, c.slots.ensures, c.failures-start.ensures.count) refl
