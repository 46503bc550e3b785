-- The invariant of the processes, the stored counts and the tables.
use Rattle.std.specs.Prelude.{◌≡◌, ℕ, ◌+◌, ◌≤◌, false, List, [], length}
use Rattle.shm_base.specs.State as flat
use Rattle.shm_base.specs.Guest.{is_live}
use Rattle.shm_base.specs.Space.{lowest_address}
use Rattle.shm_base.specs.Segments.{attach_count}
use Rattle.shm_areas.specs.Arranged.{Arranged}
use Rattle.shm_attach.specs.declared.process.Runner.{Runner}
use Rattle.shm_attach.specs.declared.tables.Tables.{Tables}
use Rattle.shm_attach.specs.Views.{runners_view, some_if}
use Rattle.shm_attach.specs.Tables.{counted, OneTableEach, AllHaveTables}
use Rattle.shm_attach.specs.Spaces.{pieces_at, life_at}
use Rattle.shm_base.specs.declared.bounds.TheConstants.{MOST_PIECES, MOST_PROCESSES}

-- the most pieces that a segment has: 65530 in each of 32768 processes
abbrev pub most_of_segment : ℕ
most_of_segment = 2147287040

-- each count is the number of pieces and reservations; the pieces of each process are in order and not too many; a process that
-- is not live has none
pub record AreCountsExact (extra : ℕ → ℕ) (rs : List flat.Runner) (t : Tables) : Type 0 where
  pub counts : (id : ℕ) → counted t id ≡ attach_count rs id + extra id
  pub processes : length rs ≤ MOST_PROCESSES
  pub pieces : (i : ℕ) → length (pieces_at rs i) ≤ MOST_PIECES
  pub idle : (i : ℕ) → is_live (life_at rs i) ≡ false → pieces_at rs i ≡ []
  pub arranged : (i : ℕ) → Arranged lowest_address (pieces_at rs i)

-- the counts are exact, and each piece has the table of its segment
pub record AreTablesSound (extra : ℕ → ℕ) (es : List (ℕ × Runner)) (t : Tables) : Type 0 where
  pub exact : AreCountsExact extra (runners_view es) t
  pub tied : OneTableEach t
  pub tables : AllHaveTables es t.slab

-- no table is reserved
abbrev pub no_reservations : ℕ → ℕ
no_reservations id = 0

-- one table is reserved, for this segment
abbrev pub one_reserved : ℕ → ℕ → ℕ
one_reserved seg id = some_if id seg 1

-- each segment's table is reserved by at most one attach under way
pub record HasReservations (es : List (ℕ × Runner)) (t : Tables) : Type 0 where
  pub extra : ℕ → ℕ
  pub few : (id : ℕ) → extra id ≤ 1
  pub sound : AreTablesSound extra es t
