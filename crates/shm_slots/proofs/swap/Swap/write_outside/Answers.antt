use Rattle.std.proofs.Common.{Some, ap, ◌+◌, ◌∙◌, ℕ}
use Rattle.shm_slots.proofs.Causes.{GoesOn-trans, unspent-before}
use Rattle.shm_slots.proofs.Relocating.{relocated, relocated-not}
use Rattle.shm_slots.proofs.Rows.{owners-back, owners-moved}
use Rattle.shm_slots.specs.View.{IsSwap, with_slot_owner, with_slot_page}
use Rattle.shm_slots.proofs.swap.Swap.write_outside.Goals as goal

pub returns-in-Ok : goal.returns-in-Ok
returns-in-Ok g c =
    let to = c.in-Some.to in
    let s = c.args.self.now in
    let sound : IsSwap (with_slot_page (with_slot_owner s to (Some c.args.page)) to c.args.bytes.now _) = rw (c.in-Ok.ensures.ok, c.in-Some.ensures.taken) at c.write_slot.ensures.sound in
    let given = c.give_slot.ensures in
    record {
      ok = rw (given.given, c.in-Ok.ensures.ok, c.in-Some.ensures.taken)
          (relocated c.args.page c.args.from to s c.args.bytes.now _ _ c.requires.sound sound c.requires.there c.in-Some.ensures.found c.requires.bytes);
      owners = rw (given.given, c.in-Ok.ensures.ok, c.in-Some.ensures.taken) (owners-moved s c.args.page c.args.from to c.args.bytes.now _ _);
      err = tt;
      same = tt;
      failures = given.steady.failures ∙ c.in-Ok.ensures.failures ∙ c.take_outside.ensures.steady.failures;
      goes_on = GoesOn-trans _ _ _ (GoesOn-trans _ _ _ c.take_outside.ensures.steady.goes_on c.write_slot.ensures.goes_on) given.steady.goes_on;
      same_sizes = given.steady.same_sizes ∙ c.write_slot.ensures.sizes ∙ c.take_outside.ensures.steady.same_sizes;
      sound = given.sound;
    }

pub returns-in-Err : goal.returns-in-Err
returns-in-Err g c =
    let s = c.args.self.now in
    let first = c.in-Some.ensures.found in
    let given = c.give_slot-in-Err.ensures in
    record {
      ok = tt;
      owners = tt;
      err = rw given.given
          (relocated-not c.args.page c.args.from c.in-Some.to s c.write_slot.new.self _ c.requires.sound.each c.write_slot.ensures.sound.each first
          (rw c.in-Some.ensures.taken at c.write_slot.ensures.others) (rw c.in-Some.ensures.taken at c.in-Err.ensures.err));
      same = rw given.given
          (owners-back s c.write_slot.new.self c.args.page (Some c.args.from.area) c.in-Some.to _ c.requires.sound.each first
          (rw c.in-Some.ensures.taken at c.write_slot.ensures.others) (rw c.in-Some.ensures.taken at c.in-Err.ensures.err));
      failures = λ unspent.
          let before = unspent-before c.write_slot.new.self c.give_slot-in-Err.new.self given.sound given.steady.goes_on given.steady.same_sizes unspent in
          given.steady.failures ∙ c.in-Err.ensures.failures before ∙ ap (λ (n : ℕ). n + 1) c.take_outside.ensures.steady.failures;
      goes_on = GoesOn-trans _ _ _ (GoesOn-trans _ _ _ c.take_outside.ensures.steady.goes_on c.write_slot.ensures.goes_on) given.steady.goes_on;
      same_sizes = given.steady.same_sizes ∙ c.write_slot.ensures.sizes ∙ c.take_outside.ensures.steady.same_sizes;
      sound = given.sound;
    }
