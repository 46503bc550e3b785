use Rattle.std.proofs.Common.{arith}
use Rattle.shm_base.proofs.Returned.{sound_none}
use Rattle.shm_base.proofs.numbers.Numbers.new.Goals as goal

pub invariant_of-result : goal.invariant_of-result
invariant_of-result c = (rw c.new.ensures.items (sound_none 0), c.new.ensures.heap_order, omega arith)
