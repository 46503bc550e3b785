use Rattle.shm_areas.proofs.Names.{◌≡◌, drop, find, has_origin, Piece, bare}
use Rattle.shm_areas.proofs.taking.first_with_origin.Given as goal

-- the pieces so far have another origin
abbrev pub invariant-loop-piece : goal.invariant-loop-piece
invariant-loop-piece l = find (λ (p : Piece). has_origin l.addr (bare p)) l.pieces ≡ find (λ (p : Piece). has_origin l.addr (bare p)) (drop l.piece-index l.pieces)
