use Rattle.shm_segments.proofs.Names.{◌≡◌, take, locked_by_of_rows}
use Rattle.shm_segments.proofs.segments.locked_in.Given as goal

abbrev pub invariant-loop-index : goal.invariant-loop-index
invariant-loop-index l = l.pages ≡ locked_by_of_rows l.user (take l.index l.table)
