-- The least gap, and how it is searched.
use Rattle.std.specs.Prelude.{◌≡◌, ℕ, ◌+◌, ◌*◌, ◌%◌, ◌≤◌, ◌<◌, true, false, nat_le, if◌then◌else◌, List, [], ◌∷◌, Option, Some, None, max}
use Rattle.shm_base.specs.State.{Piece}
use Rattle.shm_base.specs.Access.{end_of}
use Rattle.shm_base.specs.Space.{first_chosen, end_address, occupied, is_gap}
use Rattle.shm_areas.specs.Arranged.{bare_all}
use Rattle.shm_areas.specs.declared.piece.Piece.{Piece as Stored}
use Rattle.shm_base.specs.declared.paging.TheConstants.{PAGE_SIZE}

-- a gap for this many pages: a range of free addresses from 0x40000000 on; no lower one exists
pub record IsLeastGap (ps : List Piece) (pages base : ℕ) : Type 0 where
  pub gap : is_gap ps pages base ≡ true
  pub aligned : base % PAGE_SIZE ≡ 0
  pub least : (b : ℕ) → is_gap ps pages b ≡ true → base ≤ b

abbrev pub HasNoGap : List Piece → ℕ → Type 0
HasNoGap ps pages = (b : ℕ) → is_gap ps pages b ≡ false

-- the first gap at or above an address, searched upwards over the remaining pieces
abbrev pub gap_from : ℕ → ℕ → List Piece → Option ℕ
gap_from pages base [] = if nat_le (base + PAGE_SIZE * pages) end_address then Some base else None
gap_from pages base (p ∷ ps) = if nat_le (base + PAGE_SIZE * pages) p.base then Some base else gap_from pages (max base (end_of p)) ps

-- each address from the first that may be chosen up to this one is in a piece
pub record IsFilled (filled : ℕ) (ps : List Stored) : Type 0 where
  pub first : first_chosen ≤ filled
  pub high : filled ≤ end_address
  pub full : (a : ℕ) → first_chosen ≤ a → a < filled → occupied (bare_all ps) a (a + 1) ≡ true
