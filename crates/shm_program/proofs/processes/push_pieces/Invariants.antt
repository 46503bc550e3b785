use Rattle.shm_program.proofs.Names.{◌≡◌, ◌++◌, drop, string_bytes, bare_all, pieces_text}
use Rattle.shm_program.proofs.processes.push_pieces.Given as goal

-- the lines so far, and then those of the pieces that are left
abbrev pub invariant-loop-piece : goal.invariant-loop-piece
invariant-loop-piece l = string_bytes l.text ++ pieces_text (bare_all (drop l.piece-index l.pieces)) ≡ string_bytes l.fn.text ++ pieces_text (bare_all l.pieces)
