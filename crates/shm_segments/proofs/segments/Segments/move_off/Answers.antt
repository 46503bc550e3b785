use Rattle.shm_segments.proofs.Names.{ap, arith, SegmentsView, common_steps}
use Rattle.shm_segments.proofs.Sums.{reserved-joined}
use Rattle.shm_segments.proofs.Remembered.{memory-same}
use Rattle.shm_segments.proofs.segments.Segments.move_off.Goals as goal

pub invariant_of-self : goal.invariant_of-self
invariant_of-self g c = record { kept = rw c.move_off.ensures.held c.self.invariant.kept; sound = c.move_off.ensures.sound }

pub returns-clause-table : goal.returns-clause-table
returns-clause-table g c = rw c.move_off.ensures.held (ap (λ (v : SegmentsView). v.table) c.self.view_is)

pub returns-clause-keeps : goal.returns-clause-keeps
returns-clause-keeps g c = grind (arith, common_steps, c.move_off.ensures, c.self.view_is, memory-same)

pub move_off-requires-clause-room : goal.move_off-requires-clause-room
move_off-requires-clause-room g c = grind (arith, common_steps, c.self.view_is, c.requires.room, c.self.invariant.kept, reserved-joined)
