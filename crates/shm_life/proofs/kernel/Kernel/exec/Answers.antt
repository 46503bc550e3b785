use Rattle.shm_life.proofs.Names.{◌∙◌, Live}
use Rattle.shm_life.proofs.Settled.{well-kept}
use Rattle.shm_life.proofs.Going.{Goes, all-go, swept-may}
use Rattle.shm_life.proofs.kernel.Kernel.exec.Given.{Over}
use Rattle.shm_life.proofs.kernel.Kernel.exec.Goals as goal
use Rattle.shm_life.proofs.kernel.Kernel.exec.Goals.{After-lost}

goes : (g : Over) (c : After-lost g) → Goes c.self.inside.limits c.self.inside.segments.table c.exec.new.self.runners c.lost.result.now
goes g c =
    rw (c.lost.ensures.value, c.exec.ensures.lost, c.exec.ensures.runners)
    (all-go _ _ _ c.args.caller.now c.self.invariant.0.kept (rw (← c.self.view_is) at c.requires) (Live c.args.caller.now.cred))

pub after_detach-requires : goal.after_detach-requires
after_detach-requires g c = swept-may _ _ _ (goes g (goal.at.after_detach-requires g c).After-lost)

pub invariant_of-self : goal.invariant_of-self
invariant_of-self g c = (
  (c.after_detach.ensures.well _ (well-kept _ _ _ _ _ _ _ _ c.self.invariant.0 (goes g (goal.at.invariant_of-self g c).After-lost).kept (c.exec.ensures.translated _ c.self.invariant.0.translated))),
  c.exec.ensures.most ∙ c.self.invariant.1,
  c.self.invariant.2,
)
