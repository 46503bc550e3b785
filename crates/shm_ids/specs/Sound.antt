-- The invariant that ties the parts of an identifier table together.
use Rattle.std.specs.Prelude.{◌≡◌, ◌≢◌, ℕ, ◌+◌, ◌≤◌, ◌&&◌, Bool, not, if◌then◌else◌, is_none, nat_lt, List, length, Option, Some, None, nat_eq}
use Rattle.indexmap.specs.IndexMap.{IndexMap, get}
use Rattle.shm_ids.specs.declared.table.Entry.{Entry}
use Rattle.shm_ids.specs.declared.table.Row.{Row}
use Rattle.shm_base.specs.Numbers.{NumbersView, is_taken}
use Rattle.shm_ids.specs.Table.{entry_at, key_at}
use Rattle.shm_base.specs.declared.bounds.TheConstants.{INDEXES, SEQUENCES}

-- a number is free or taken as `free` says, and no other changed
abbrev pub TakenAs : NumbersView → NumbersView → ℕ → Bool → Type 0
TakenAs before after i free = (j : ℕ) → is_taken after j ≡ (if nat_eq j i then not free else is_taken before j)

module _ {T : Type 0} where
  -- how many rows are at an index: one or none
  abbrev pub rows_in : Option (Row T) → ℕ
  rows_in None = 0
  rows_in (Some r) = 1

  -- the entries, of which the first is at index `first`, have identifiers within range: sequences below SEQUENCES, indexes below
  -- INDEXES
  pub record HaveIdentifiers (first : ℕ) (es : List (Entry T)) : Type 0 where
    pub indexes : first + length es ≤ INDEXES
    pub sequences : (k : ℕ) → (entry_at es k).destroyed + rows_in (entry_at es k).row ≤ SEQUENCES

  -- the index of an entry is free: it has no row, and is not worn out
  abbrev pub is_open : Entry T → Bool
  is_open e = is_none e.row && nat_lt e.destroyed SEQUENCES

  -- the other indexes are taken, and there is room to return each
  pub record AreIndexesKnown (table : List (Entry T)) (indexes : NumbersView) : Type 0 where
    pub taken : (i : ℕ) → is_taken indexes i ≡ not (is_open (entry_at table i))
    pub room : length table ≤ indexes.room

  -- the map has the index of each live key other than 0, and nothing else
  pub record Keyed {S : Type 0} (table : List (Entry T)) (keys : IndexMap ℕ ℕ S) : Type 0 where
    pub found : (key i : ℕ) → get nat_eq keys key ≡ Some i → (key_at table i ≡ key) × (key ≢ 0)
    pub live : (i : ℕ) → key_at table i ≢ 0 → get nat_eq keys (key_at table i) ≡ Some i

  -- the invariant
  pub record Sound {S : Type 0} (table : List (Entry T)) (indexes : NumbersView) (keys : IndexMap ℕ ℕ S) : Type 0 where
    pub identifiers : HaveIdentifiers 0 table
    pub known : AreIndexesKnown table indexes
    pub keyed : Keyed table keys
