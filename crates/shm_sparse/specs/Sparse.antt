-- Lists of which most items are alike.
use Rattle.std.specs.Prelude.{◌≡◌, ◌≢◌, ℕ, zero, suc, ◌+◌, ◌-◌, ◌*◌, ◌/◌, ◌%◌, ◌^◌, ◌==◌, ◌<◌, ◌≤◌, Bool, not, if◌then◌else◌, nat_lt, List, [], ◌∷◌, ◌++◌, length, get_or, replicate, count_by}

-- the items, and what an item is unless it was set
pub record SparseView (X : Type 0) : Type 0 where
  pub other : X
  pub items : List X

-- how many items are stored together
abbrev pub run_length : ℕ
run_length = 256

-- how many runs this many items have
abbrev pub runs_for : ℕ → ℕ
runs_for count = (count + 255) / run_length

-- how many items are stored, at most: without a second run, the items
abbrev pub room_for : ℕ → ℕ
room_for count = if nat_lt run_length count then run_length * runs_for count else count

-- the place of a run that is not stored: all its items are past those that are stored
abbrev pub no_place : ℕ
no_place = 2 ^ 32 - 1

-- the place of a run among the stored ones
abbrev pub place_at : List ℕ → ℕ → ℕ
place_at runs run = get_or runs run no_place

abbrev pub is_place : ℕ → Bool
is_place place = not (place == no_place)

module _ {X : Type 0} where
  -- n items, each by its index, from an index on
  abbrev pub items_from : (ℕ → X) → ℕ → ℕ → List X
  items_from item from zero = []
  items_from item from (suc n) = item from ∷ items_from item (from + 1) n

  -- an item, by the place of its run among the stored ones
  abbrev pub item_at : X → List ℕ → List X → ℕ → X
  item_at other runs stored index = get_or stored (run_length * place_at runs (index / run_length) + index % run_length) other

  abbrev pub items_of : X → List ℕ → List X → ℕ → List X
  items_of other runs stored count = items_from (item_at other runs stored) 0 count

  -- the list with more items, all like the others
  abbrev pub extended : SparseView X → ℕ → SparseView X
  extended v count = record v { items = v.items ++ replicate (count - length v.items) v.other }

-- the items from a count on are like the others
abbrev pub IsShort : {X : Type 0} → X → List ℕ → List X → ℕ → Type 0
IsShort other runs stored count = (index : ℕ) → count ≤ index → item_at other runs stored index ≡ other

-- Each stored run has its own place. The last one is stored up to the last of its items that was set.
pub record AreRuns (runs : List ℕ) (stored : ℕ) : Type 0 where
  pub most : stored ≤ run_length * count_by is_place runs
  pub least : run_length * count_by is_place runs < stored + run_length
  pub within : (run : ℕ) → place_at runs run ≢ no_place → run_length * place_at runs run < stored
  pub apart : (run run' : ℕ) → place_at runs run ≢ no_place → place_at runs run ≡ place_at runs run' → run ≡ run'
