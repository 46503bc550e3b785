-- The rows of a table, in order of their indexes.
use Rattle.std.specs.Prelude.{ℕ, ◌+◌, ℤ, pos, List, [], ◌∷◌, Option, Some, None}
use Rattle.shm_ids.specs.declared.table.Entry.{Entry}
use Rattle.shm_ids.specs.declared.table.Row.{Row}
use Rattle.shm_ids.specs.Table.{identifier}

module _ {T : Type 0} where
  -- a row, as a listing shows it: identifier, key and value
  abbrev pub row_shown : ℕ → ℕ → Option (Row T) → Option (ℤ × (ℕ × T))
  row_shown i sequence None = None
  row_shown i sequence (Some r) = Some (pos (identifier i sequence), (r.key, r.value))

  abbrev pub row_listed : ℕ → Entry T → Option (ℤ × (ℕ × T))
  row_listed i e = row_shown i e.destroyed e.row

  -- one row, if there is one, before others
  abbrev pub rows_row : ℕ → ℕ → Option (Row T) → List (ℤ × (ℕ × T)) → List (ℤ × (ℕ × T))
  rows_row i sequence None rest = rest
  rows_row i sequence (Some r) rest = (pos (identifier i sequence), (r.key, r.value)) ∷ rest

  -- the rows of these entries, the first of which is at index i: identifier, key and value
  abbrev pub rows_from : ℕ → List (Entry T) → List (ℤ × (ℕ × T))
  rows_from i [] = []
  rows_from i (e ∷ es) = rows_row i e.destroyed e.row (rows_from (i + 1) es)
