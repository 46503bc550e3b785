-- How a machine's pieces match its segments.
use Rattle.std.specs.Prelude.{◌≡◌, ◌+◌, ◌<◌, ℕ, true, List, All}
use Rattle.shm_base.specs.State.{Entry, Piece, Runner}
use Rattle.shm_segments.specs.Table.{IsLive, page_there}

-- a piece's segment is live, and has the piece's pages
abbrev pub PieceFits : List Entry → Piece → Type 0
PieceFits table p =
    IsLive table p.seg × ((j : ℕ) → j < p.pages → page_there table p.seg (p.first_page + j) ≡ true)

-- every piece fits
abbrev pub PiecesFit : List Entry → List Runner → Type 0
PiecesFit table rs = All (λ (r : Runner). All (PieceFits table) r.pieces) rs
