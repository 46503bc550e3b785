-- The keeper of a gauge after a run.
use Rattle.std.specs.Prelude.{◌≡◌, ◌<◌, ◌⊎◌, false, List, [], Option, Some, None, length}
use Rattle.shm_history.specs.Gauges.{CellName, Seat, StartsWith, has_gauge, reading_of}
use Rattle.shm_history.specs.WorldState.{WorldState, tally_of}
use Rattle.shm_history.specs.declared.cell.Reading.{Reading}

-- the cell of the keeper, if there is one
abbrev pub cell_of : Option Seat → Option CellName
cell_of None = None
cell_of (Some k) = Some k.cell

-- what the keeper has stored, if there is one
abbrev pub stored_of : Option Seat → List Reading
stored_of None = []
stored_of (Some k) = k.stored

-- the keeper of a run: it has the cell of the keeper that was passed in, and stored more after what that one had stored
pub record IsKept (cell : Option CellName) (stored : List Reading) (keeper : Option Seat) : Type 0 where
  pub same_cell : cell_of keeper ≡ cell
  pub grows : StartsWith (stored_of keeper) stored

-- the counts are the world's; or they have more events than its history; or the world is too large for a gauge
abbrev pub IsCaughtUp : WorldState → Reading → Type 0
IsCaughtUp world counts = (counts ≡ reading_of (tally_of world)) ⊎ (length world.events < counts.events) ⊎ (has_gauge world.machine.limits ≡ false)

-- the same for the keeper, if there is one
abbrev pub HasPublished : WorldState → Option Seat → Type 0
HasPublished world None = Unit {0}
HasPublished world (Some k) = IsCaughtUp world k.numbers
