-- The gauge's four words, what each seat knows of them, and what each kind of step changes.
use Rattle.std.specs.Prelude.{◌≡◌, ℕ, ◌≤◌, nat_le, Bool, ◌&&◌, List, [], ◌∷◌, ◌++◌, slice_index, true, false}
use mathlib.Core.Option.{some}
use lib.ListN.{get_elem?}
use Rattle.atomic_table.specs.Seated.{TableId}
use Rattle.shm_base.specs.Bounds.{Bounds}
use Rattle.shm_base.specs.declared.paging.Tally.{Tally}
use Rattle.shm_history.specs.declared.cell.Reading.{Reading}
use Rattle.shm_history.specs.declared.cell.SeatView.{SeatView}
use Rattle.shm_base.specs.declared.bounds.TheConstants.{PROFILE_FRAMES, PROFILE_SHMALL}

-- the name of one gauge's cell
abbrev pub CellName : Type 0
CellName = TableId

-- what contracts see of a seat: the name of its cell, the counts that it knows, and those that were stored up to them
pub record Seat : Type 0 where
  pub cell : CellName
  pub numbers : Reading
  pub stored : List Reading

abbrev pub zeros : Reading
zeros = record { events = 0; resident = 0; dirty = 0; used = 0 }

-- the four counts of a gauge among all counts
abbrev pub reading_of : Tally → Reading
reading_of t = record { events = t.events; resident = t.resident; dirty = t.dirty; used = t.used }

abbrev pub cell_words : Reading → List ℕ
cell_words r = r.events ∷ r.resident ∷ r.dirty ∷ r.used ∷ []

abbrev pub numbers_of : List ℕ → Reading
numbers_of ws = record { events = slice_index ws 0; resident = slice_index ws 1; dirty = slice_index ws 2; used = slice_index ws 3 }

-- the bounds of the counts of a world of the profile's size
abbrev pub IsReading : Reading → Type 0
IsReading r = (r.dirty ≤ r.resident) × (r.resident ≤ PROFILE_FRAMES) × (r.used ≤ PROFILE_SHMALL)

-- the machine is of that size; larger ones have no gauge
abbrev pub has_gauge : Bounds → Bool
has_gauge limits = nat_le limits.frames PROFILE_FRAMES && nat_le limits.shmall PROFILE_SHMALL

-- the last of these, or zeros
abbrev pub last_of : Reading → List Reading → Reading
last_of d [] = d
last_of d (r ∷ rs) = last_of r rs

abbrev pub StartsWith : List Reading → List Reading → Type 0
StartsWith all seen = (rest : List Reading) × (all ≡ seen ++ rest)

-- the keeper's seat after it stored these
abbrev pub stores : Seat → Reading → Seat
stores k r = record k { numbers = r; stored = k.stored ++ r ∷ [] }

-- what the keeper's seat knows, and what a reader's seat knows
abbrev pub keeping : Reading → List Reading → SeatView
keeping r all = record { is_keeper = true; seen = r; stored = all }

abbrev pub having_seen : Reading → List Reading → SeatView
having_seen r all = record { is_keeper = false; seen = r; stored = all }

-- what the rule says of one seat, if the keeper has stored these: the seat knows the last of a beginning of them
pub record Fits (seat : ℕ) (now : Reading) (all : List Reading) (by : ℕ) (v : SeatView) : Type 0 where
  pub keeper : v.is_keeper ≡ true → by ≡ seat
  pub events : v.seen.events ≤ now.events
  pub begins : StartsWith all v.stored
  pub last : v.seen ≡ last_of zeros v.stored

-- THE RULE: one seat is the keeper's, and the words are the counts that it stored last, within their bounds
pub record IsGaugeSound (words : List ℕ) (views : List SeatView) : Type 0 where
  pub seat : ℕ
  pub now : Reading
  pub all : List Reading
  pub is : words ≡ cell_words now
  pub bounds : IsReading now
  pub latest : now ≡ last_of zeros all
  pub there : get_elem? views seat ≡ some (keeping now all)
  pub fits : (by : ℕ) (v : SeatView) → get_elem? views by ≡ some v → Fits seat now all by v

-- a reader's load: the seat has seen the words, which are the last that were stored
pub record IsLoad (v : SeatView) (before after : List ℕ) (w : SeatView) : Type 0 where
  pub reader : w.is_keeper ≡ false
  pub seen : w.seen ≡ numbers_of after
  pub bounds : IsReading w.seen
  pub later : v.seen.events ≤ w.seen.events
  pub grows : StartsWith w.stored v.stored
  pub last : w.seen ≡ last_of zeros w.stored

-- the keeper's store: its seat knows the words that it stored, after those before
abbrev pub IsStore : SeatView → List ℕ → List ℕ → SeatView → Type 0
IsStore v before after w = w ≡ keeping (numbers_of after) (v.stored ++ numbers_of after ∷ [])
