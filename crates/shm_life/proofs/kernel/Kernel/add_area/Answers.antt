use Rattle.shm_life.proofs.Enlarged.{enlarged_well}
use Rattle.shm_life.proofs.kernel.Kernel.add_area.Goals as goal

pub invariant_of-self-2 : goal.invariant_of-self-2
invariant_of-self-2 g c = (
  enlarged_well c.self.inside.limits c.self.inside.segments.table c.add_area.new.self.table c.self.inside.spaces.runners c.self.inside.spaces.translations c.self.inside.segments.memory c.add_area.new.self.memory _ c.in_ok-add_area.ensures.memory c.in_ok-add_area.ensures.table c.self.invariant.0,
  c.self.invariant.1,
  c.self.invariant.2,
)
