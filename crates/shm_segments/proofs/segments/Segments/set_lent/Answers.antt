use Rattle.shm_segments.proofs.Marking.{marked}
use Rattle.shm_segments.proofs.segments.Segments.set_lent.Goals as goal

pub invariant_of-self : goal.invariant_of-self
invariant_of-self g c = (marked _ _ _ _ _ _ _ c.self.invariant c.set_lent.ensures).whole

pub returns-clause-table : goal.returns-clause-table
returns-clause-table g c = rw (← c.self.view_is) (marked _ _ _ _ _ _ _ c.self.invariant c.set_lent.ensures).table

pub returns-clause-keeps : goal.returns-clause-keeps
returns-clause-keeps g c = rw (← c.self.view_is) (marked _ _ _ _ _ _ _ c.self.invariant c.set_lent.ensures).keeps
