use Rattle.std.proofs.Common.{◌≡◌, true, get_or, None, is_some, length-set}
use Rattle.shm_base.specs.Stored.{padded}
use Rattle.shm_base.proofs.Stored.{unset-padded}
use Rattle.shm_slots.proofs.Least.{sound-give}
use Rattle.shm_slots.proofs.owners.Owners.give.Goals as goal

pub invariant_of-self : goal.invariant_of-self
invariant_of-self c =
    let owned : is_some (get_or (padded c.self.inside.slots.items c.self.inside.count None) c.args.slot None) ≡ true = rw (c.self.view_is, ← c.get.ensures, ← c.is_some.ensures) c.if-is_some.true in (
      rw length-set c.self.invariant.0,
      c.self.invariant.1,
      c.self.invariant.2,
      rw (unset-padded c.self.inside.slots.items c.self.inside.count c.args.slot None) (
          sound-give (padded c.self.inside.slots.items c.self.inside.count None) c.self.inside.numbers c.give.new.self c.self.inside.used c.args.slot c.self.invariant.3 (rw c.self.view_is c.requires) owned c.give.ensures.given c.give.ensures.room
          ),
    )

pub returns-then-is_some : goal.returns-then-is_some
returns-then-is_some c = rw (← c.self.view_is) (unset-padded c.self.inside.slots.items c.self.inside.count c.args.slot None)
