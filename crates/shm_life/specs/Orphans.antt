-- The segments that may be left without pieces, and the table after they are destroyed.
use Rattle.std.specs.Prelude.{◌≡◌, ◌≤◌, ◌==◌, ℕ, Bool, true, List, length, All}
use Rattle.std.specs.List.{list_any}
use Rattle.shm_base.specs.State.{Entry, Runner}
use Rattle.shm_base.specs.Segments.{reserved, locked, swept}
use Rattle.shm_segments.specs.Orphan.{orphan, identifier_at}
use Rattle.shm_segments.specs.Table.{IsLive}
use Rattle.shm_life.specs.Tied.{PiecesFit}
use Rattle.shm_base.specs.declared.bounds.TheConstants.{INDEXES}

abbrev pub is_among : List ℕ → ℕ → Bool
is_among ids id = list_any (λ x. x == id) ids

-- all marked segments without pieces are among these
abbrev pub OrphansAmong : List ℕ → List Runner → List Entry → Type 0
OrphansAmong ids rs table = (i : ℕ) → orphan rs table i ≡ true → is_among ids (identifier_at table i) ≡ true

-- the segments that lost pieces are live, and only these may be marked without pieces
pub record MayBeSwept (lost : List ℕ) (rs : List Runner) (table : List Entry) : Type 0 where
  pub live : All (IsLive table) lost
  pub few : length table ≤ INDEXES
  pub orphans : OrphansAmong lost rs table

-- some of them were destroyed, and nothing else changed
pub record Sweeps (rs : List Runner) (before after : List Entry) : Type 0 where
  pub swept : swept rs after ≡ swept rs before
  pub size : length after ≡ length before
  pub reserved : reserved after ≤ reserved before
  pub locked : locked after ≤ locked before
  pub pieces : PiecesFit before rs → PiecesFit after rs
