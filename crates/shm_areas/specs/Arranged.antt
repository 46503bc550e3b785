-- What the stored pieces of a process show, and how they are arranged.
use Rattle.std.specs.Prelude.{◌≡◌, ℕ, ◌+◌, ◌%◌, ◌≤◌, ◌<◌, List, [], ◌∷◌, length, map, All, ⊤}
use Rattle.shm_base.specs.State as flat
use Rattle.shm_base.specs.Access.{end_of}
use Rattle.shm_base.specs.Space.{lowest_address, end_address}
use Rattle.shm_areas.specs.declared.piece.Piece.{Piece}
use Rattle.shm_base.specs.declared.bounds.TheConstants.{MOST_PIECES, MOST_SHMALL}
use Rattle.shm_base.specs.declared.paging.TheConstants.{PAGE_SIZE}

-- a stored piece without its key
abbrev pub bare : Piece → flat.Piece
bare p =
    record {
      base = p.base;
      seg = p.seg;
      first_page = p.first_page;
      pages = p.pages;
      writable = p.writable;
      may_write = p.may_write;
    }

abbrev pub bare_all : List Piece → List flat.Piece
bare_all ps = map bare ps

-- the piece has whole pages of the address range, and belongs to a segment with at most as many pages as all may have
pub record IsFit (p : flat.Piece) : Type 0 where
  pub aligned : p.base % PAGE_SIZE ≡ 0
  pub some : 1 ≤ p.pages
  pub few : p.first_page + p.pages ≤ MOST_SHMALL
  pub within : end_of p ≤ end_address

-- no piece has the page `reach` or a higher one
abbrev pub AreWithin : ℕ → List flat.Piece → Type 0
AreWithin reach ps = All (λ (p : flat.Piece). p.first_page + p.pages ≤ reach) ps

-- fit pieces in order of their bases, none below `low`, that do not overlap
abbrev pub Arranged : ℕ → List flat.Piece → Type 0
Arranged low [] = ⊤
Arranged low (p ∷ ps) = (low ≤ p.base) × (IsFit p × Arranged (end_of p) ps)

-- what contracts see of a space: its pieces, and the most that it may have
pub record SpaceView : Type 0 where
  pub pieces : List Piece
  pub most : ℕ

-- the pieces are in order, and not too many
pub record IsSpace (s : SpaceView) : Type 0 where
  pub arranged : Arranged lowest_address (bare_all s.pieces)
  pub few : length s.pieces ≤ s.most
  pub bound : s.most ≤ MOST_PIECES

pub record IsCovering (a : ℕ) (p : Piece) : Type 0 where
  pub fit : IsFit (bare p)
  pub from : p.base ≤ a
  pub to : a < end_of (bare p)
