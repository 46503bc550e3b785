use Rattle.shm_life.proofs.Names.{arith}
use Rattle.shm_life.proofs.kernel.Kernel.passes_limit.Goals as goal

pub overflow_add-locked_by : goal.overflow_add-locked_by
overflow_add-locked_by g c = omega (arith, c.locked_by.ensures.few, c.self.invariant.0.kept.locked, c.self.invariant.0.kept.lockable)
