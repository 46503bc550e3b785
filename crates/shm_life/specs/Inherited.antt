-- What a child inherits.
use Rattle.std.specs.Prelude.{ℕ, List, map}
use Rattle.shm_areas.specs.declared.piece.Piece.{Piece}

-- the segments of stored pieces
abbrev pub segments_in : List Piece → List ℕ
segments_in ps = map (λ (p : Piece). p.seg) ps
