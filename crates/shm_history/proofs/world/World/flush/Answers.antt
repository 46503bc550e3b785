use Rattle.shm_history.proofs.Counted.{counted_on}
use Rattle.shm_history.proofs.world.World.flush.Goals as goal

pub invariant_of-self : goal.invariant_of-self
invariant_of-self g c = rw c.flush.ensures.rest (c.self.invariant.0, c.self.invariant.1, counted_on c.self.inside.history.items c.self.inside.system.memory.swap c.flush.new.self.memory.swap c.flush.ensures.keeps.goes_on c.self.invariant.2, c.self.invariant.3)
