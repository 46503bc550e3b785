-- The pieces that a range meets.
use Rattle.std.specs.Prelude.{◌≡◌, ℕ, ◌+◌, ◌*◌, ◌<◌, ◌≤◌, true, List, length, filter, get_or, All}
use Rattle.shm_base.specs.Access.{end_of}
use Rattle.shm_base.specs.Space.{lowest_address, meets}
use Rattle.shm_areas.specs.declared.piece.Piece.{Piece}
use Rattle.shm_base.specs.declared.paging.TheConstants.{PAGE_SIZE}
use Rattle.shm_areas.specs.Arranged.{bare, bare_all, Arranged}

-- the pieces with a page in the range
abbrev pub met : ℕ → ℕ → List Piece → List Piece
met from to ps = filter (λ (p : Piece). meets from to (bare p)) ps

-- pieces in order, each with a page in the range
pub record AreMet (from to : ℕ) (ps : List Piece) : Type 0 where
  pub arranged : Arranged lowest_address (bare_all ps)
  pub meet : All (λ (p : Piece). meets from to (bare p) ≡ true) ps

-- they are the pieces from index `first` up to index `last`
pub record IsPieceRange (from to : ℕ) (ps : List Piece) (first last : ℕ) : Type 0 where
  pub order : first ≤ last
  pub bound : last ≤ length ps
  pub before : (k : ℕ) (d : Piece) → k < first → end_of (bare (get_or ps k d)) ≤ from
  pub after : (k : ℕ) (d : Piece) → first ≤ k → k < length ps → from < end_of (bare (get_or ps k d))
  pub below : (k : ℕ) (d : Piece) → k < last → (get_or ps k d).base < to
  pub above : (k : ℕ) (d : Piece) → last ≤ k → k < length ps → to ≤ (get_or ps k d).base

-- pieces at other indexes have another origin, if no piece has the page `reach` or a higher one
pub record IsOriginRange (addr reach : ℕ) (ps : List Piece) (first last : ℕ) : Type 0 where
  pub order : first ≤ last
  pub bound : last ≤ length ps
  pub below : (k : ℕ) (d : Piece) → k < first → (get_or ps k d).base < addr
  pub above : (k : ℕ) (d : Piece) → last ≤ k → k < length ps → addr + PAGE_SIZE * reach < (get_or ps k d).base
