use Rattle.shm_segments.proofs.Names.{ap, arith, SegmentsView, common_steps}
use Rattle.shm_segments.proofs.Remembered.{memory-same}
use Rattle.shm_segments.proofs.segments.Segments.flush.Goals as goal

pub invariant_of-self : goal.invariant_of-self
invariant_of-self g c = record { kept = rw c.flush.ensures.held c.self.invariant.kept; sound = c.flush.ensures.sound }

pub returns-clause-table : goal.returns-clause-table
returns-clause-table g c = rw c.flush.ensures.held (ap (λ (v : SegmentsView). v.table) c.self.view_is)

pub returns-clause-keeps : goal.returns-clause-keeps
returns-clause-keeps g c = grind (arith, common_steps, c.flush.ensures, c.self.view_is, memory-same)
