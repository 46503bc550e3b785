use Rattle.shm_life.proofs.kernel.Kernel.rmid.Goals as goal

pub invariant_of-self : goal.invariant_of-self
invariant_of-self g c = (c.remove.ensures.well c.self.inside.limits c.self.invariant.0, c.self.invariant.1, c.self.invariant.2)
