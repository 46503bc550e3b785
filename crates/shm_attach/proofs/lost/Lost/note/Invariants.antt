use Rattle.shm_attach.proofs.Names.{◌≡◌, map, take, vec_capacity, Piece}
use Rattle.shm_attach.proofs.lost.Lost.note.Given as goal

abbrev pub invariant-loop-piece : goal.invariant-loop-piece
invariant-loop-piece l =
    (l.self-inside.segments.items ≡ map (λ (p : Piece). p.seg) (take l.piece-index l.pieces))
    × (vec_capacity l.self-inside.segments ≡ vec_capacity l.initial.self-inside.segments)
    × (l.self-inside.most ≡ l.initial.self-inside.most)
