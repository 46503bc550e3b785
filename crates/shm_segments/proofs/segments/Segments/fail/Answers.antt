use Rattle.shm_segments.proofs.Names.{ap, SegmentsView}
use Rattle.shm_segments.proofs.segments.Segments.fail.Goals as goal

pub invariant_of-self : goal.invariant_of-self
invariant_of-self g c = record { kept = rw c.fail.ensures.held c.self.invariant.kept; sound = c.fail.ensures.sound }

pub returns-clause-table : goal.returns-clause-table
returns-clause-table g c = rw c.fail.ensures.held (ap (λ (v : SegmentsView). v.table) c.self.view_is)
