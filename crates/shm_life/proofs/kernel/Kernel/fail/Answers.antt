use Rattle.shm_life.proofs.Enlarged.{enlarged_well}
use Rattle.shm_life.proofs.kernel.Kernel.fail.Goals as goal

pub invariant_of-self : goal.invariant_of-self
invariant_of-self g c = (
  enlarged_well c.self.inside.limits c.self.inside.segments.table c.fail.new.self.table c.self.inside.spaces.runners c.self.inside.spaces.translations c.self.inside.segments.memory c.fail.new.self.memory _ c.fail.ensures.memory c.fail.ensures.table c.self.invariant.0,
  c.self.invariant.1,
  c.self.invariant.2,
)
