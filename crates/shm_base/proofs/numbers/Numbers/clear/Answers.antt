use Rattle.std.proofs.Common.{arith}
use Rattle.shm_base.proofs.Returned.{sound_none}
use Rattle.shm_base.proofs.numbers.Numbers.clear.Goals as goal

pub invariant_of-self : goal.invariant_of-self
invariant_of-self c = (rw c.clear.ensures.items (sound_none c.self.inside.room), c.clear.ensures.heap_order, omega (arith, c.self.invariant.2, c.clear.ensures.capacity))
