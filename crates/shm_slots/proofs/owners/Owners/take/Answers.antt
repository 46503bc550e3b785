use Rattle.std.proofs.Common.{◌<◌, None, arith}
use Rattle.std.proofs.lemmas.Grind.{common_steps}
use Rattle.shm_base.proofs.Stored.{length-padded}
use Rattle.shm_base.specs.Stored.{padded}
use Rattle.shm_slots.proofs.Least.{sound-take}
use Rattle.shm_slots.proofs.owners.Owners.take.Goals as goal
use Rattle.shm_slots.proofs.owners.Owners.take.Goals.{After-self}

there : (c : After-self) → c.args.slot < c.self.inside.count
there c = grind (arith, common_steps, length-padded)

pub invariant_of-self : goal.invariant_of-self
invariant_of-self c =
    let o = goal.at.invariant_of-self c in
    let t = there o.After-self in (
      c.put_owner.ensures.fit c.self.inside.count t c.self.invariant.0,
      rw c.put_owner.ensures.capacity c.self.invariant.1,
      c.self.invariant.2,
      rw (c.put_owner.ensures.items c.self.inside.count t c.self.invariant.0) (sound-take (padded c.self.inside.slots.items c.self.inside.count None) c.self.inside.numbers c.take.new.self c.self.inside.used c.args.slot c.take.result c.args.owner c.self.invariant.3 (rw c.self.view_is c.requires) c.take.ensures.least c.take.ensures.taken c.take.ensures.room),
    )

pub returns : goal.returns
returns c = let o = goal.at.returns c in rw (← c.self.view_is) (c.put_owner.ensures.items c.self.inside.count (there o.After-self) c.self.invariant.0)
