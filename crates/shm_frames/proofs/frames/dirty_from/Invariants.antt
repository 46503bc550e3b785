use Rattle.shm_frames.specs.Table.{CleanFrom}
use Rattle.std.proofs.Common.{None}
use Rattle.shm_frames.proofs.frames.dirty_from.Given as goal

abbrev pub invariant-loop-frame : goal.invariant-loop-frame
invariant-loop-frame l = CleanFrom l.table.items l.from l.frame None
