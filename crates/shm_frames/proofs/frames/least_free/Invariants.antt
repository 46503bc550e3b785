use Rattle.shm_frames.specs.Table.{UsedBelow}
use Rattle.shm_frames.proofs.frames.least_free.Given as goal

abbrev pub invariant-loop-frame : goal.invariant-loop-frame
invariant-loop-frame l = UsedBelow l.table.items l.frame
