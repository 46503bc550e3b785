use Rattle.shm_life.proofs.Names.{◌≡◌, take, attach_all, segments_in}
use Rattle.shm_life.proofs.fork.note_pieces.Given as goal

abbrev pub invariant-loop-piece : goal.invariant-loop-piece
invariant-loop-piece g l = l.segments ≡ record l.initial.segments { table = attach_all l.time l.pid l.initial.segments.table (take l.piece-index (segments_in l.pieces)) }
