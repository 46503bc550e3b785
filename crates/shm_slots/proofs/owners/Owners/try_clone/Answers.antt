use Rattle.std.proofs.Common.{◌≡◌, ◌∙◌, None, arith}
use Rattle.std.proofs.lemmas.Grind.{common_steps}
use Rattle.shm_base.proofs.Stored.{length-padded, get_or-padded}
use Rattle.shm_slots.proofs.owners.Owners.try_clone.Goals as goal

pub invariant_of-result : goal.invariant_of-result
invariant_of-result c =
    let same : c.extend_from_slice.new.self.items ≡ c.self.inside.slots.items = grind (arith, common_steps) in
    rw same (
      c.self.invariant.0,
      omega (arith, c.in_ok-slots.ensures.exact, c.in_ok-extend_from_slice.ensures.capacity),
      c.self.invariant.2,
      record {
        taken = λ i. c.give_free.ensures.taken i ∙ grind (arith, common_steps, same, get_or-padded);
        room = rw (length-padded c.self.inside.slots.items c.self.inside.count None c.self.invariant.0) (omega (arith, c.in_ok-numbers.ensures.room, c.give_free.ensures.room));
        counted = c.self.invariant.3.counted;
      },
    )
