-- A table of identifiers: its entries by index, from 0 on. Free indexes, the rows of identifiers and of keys are those of the
-- flat machine's table.
use Rattle.std.specs.Prelude.{◌≡◌, ℕ, ◌+◌, ℤ, pos, false, ◌==◌, is_some, count_by, if◌then◌else◌, List, [], ◌∷◌, ◌++◌, length, map, Option, Some, None, get_or, set, option_map, Result, Ok, Err}
use Rattle.shm_base.specs.State.{Segment, Entry as FlatEntry}
use Rattle.shm_base.specs.Identifier as flat
pub use Rattle.shm_base.specs.Identifier.{identifier}
pub use Rattle.shm_base.specs.Index.{index_of}
use Rattle.shm_ids.specs.declared.table.Entry.{Entry}
use Rattle.shm_ids.specs.declared.table.Row.{Row}
use Rattle.shm_ids.specs.declared.table.LookRefused.{LookRefused}
use Rattle.shm_ids.specs.declared.table.LookRefused.TheVariants.{Removed, Invalid}

-- the index, if the flat machine found one
abbrev pub index_found : flat.Look → Option ℕ
index_found (flat.Found i s) = Some i
index_found flat.Removed = None
index_found flat.Invalid = None

module _ {T : Type 0} where
  -- an index that was never used
  abbrev pub unused : Entry T
  unused = record { destroyed = 0; row = None }

  -- a row as the flat machine has it, with no other field than the key
  abbrev pub blank_segment : Row T → Segment
  blank_segment r = record { key = r.key; perm = record { uid = 0; gid = 0; cuid = 0; cgid = 0; mode = 0 }; size = 0; cpid = 0; lpid = 0; dest = false; locked = false; locker = 0; atime = 0; dtime = 0; ctime = 0; bytes = [] }

  -- an entry with such a row
  abbrev pub blank_entry : Entry T → FlatEntry
  blank_entry e = record { destroyed = e.destroyed; segment = option_map blank_segment e.row }

  -- the least free index
  abbrev pub free_index : List (Entry T) → Option ℕ
  free_index table = flat.free_index (map blank_entry table)

  -- the index of an entry is free: it is free in a table of only this entry
  abbrev pub IsFree : Entry T → Type 0
  IsFree e = flat.free_index (blank_entry e ∷ []) ≡ Some 0

  abbrev pub entry_at : List (Entry T) → ℕ → Entry T
  entry_at table i = get_or table i unused

  -- the identifier of the row at an index
  abbrev pub id_at : List (Entry T) → ℕ → ℤ
  id_at table i = pos (identifier i (entry_at table i).destroyed)

  abbrev pub filled : Entry T → ℕ → T → Entry T
  filled e key value = record e { row = Some (record { key = key; value = value }) }

  -- the table with a new row at an index, which may be the next unused one
  abbrev pub with_row : List (Entry T) → ℕ → ℕ → T → List (Entry T)
  with_row table i key value =
      if i == length table
      then table ++ filled unused key value ∷ []
      else set table i (filled (entry_at table i) key value)

  abbrev pub look_row : Option (Row T) → Result T LookRefused
  look_row None = Err Invalid
  look_row (Some r) = Ok r.value

  -- the table's answer, by what the flat machine found
  abbrev pub looked : (ℕ → Entry T) → flat.Look → Result T LookRefused
  looked at (flat.Found i s) = look_row (at i).row
  looked at flat.Removed = Err Removed
  looked at flat.Invalid = Err Invalid

  -- the value of an entry under a sequence number, at any index
  abbrev pub look_entry : ℕ → Entry T → Result T LookRefused
  look_entry sequence e = looked (λ i. e) (flat.look_entry 0 sequence (Some (blank_entry e)))

  -- the value of an identifier, or why there is none
  abbrev pub look : List (Entry T) → ℤ → Result T LookRefused
  look table id = looked (entry_at table) (flat.look (map blank_entry table) id)

  -- the key of a row; 0 if there is none
  abbrev pub row_key : Option (Row T) → ℕ
  row_key None = 0
  row_key (Some r) = r.key

  abbrev pub key_at : List (Entry T) → ℕ → ℕ
  key_at table i = row_key (entry_at table i).row

  -- the index of the row with a key; key 0 finds none
  abbrev pub find_key : List (Entry T) → ℕ → Option ℕ
  find_key table key = if key == 0 then None else index_found (flat.find_key (map blank_entry table) key)

  -- how many rows are live
  abbrev pub row_count : List (Entry T) → ℕ
  row_count table = count_by (λ (e : Entry T). is_some e.row) table

  abbrev pub row_with_key : ℕ → Option (Row T) → Option (Row T)
  row_with_key key None = None
  row_with_key key (Some r) = Some (record r { key = key })

  -- the table, with another key for the row at an index
  abbrev pub with_key : List (Entry T) → ℕ → ℕ → List (Entry T)
  with_key table i key = set table i (record (entry_at table i) { row = row_with_key key (entry_at table i).row })

  abbrev pub row_with_value : T → Option (Row T) → Option (Row T)
  row_with_value value None = None
  row_with_value value (Some r) = Some (record r { value = value })

  -- the table, with another value for the row at an index
  abbrev pub with_value : List (Entry T) → ℕ → T → List (Entry T)
  with_value table i value = set table i (record (entry_at table i) { row = row_with_value value (entry_at table i).row })

  -- the table, without the row at an index, which was destroyed
  abbrev pub without_row : List (Entry T) → ℕ → List (Entry T)
  without_row table i = set table i (record { destroyed = (entry_at table i).destroyed + 1; row = None })

-- the result of an insert, and the table afterwards; none if no index is free
abbrev pub row_inserted : {T : Type 0} → List (Entry T) → ℕ → T → Option (ℤ × List (Entry T))
row_inserted table key value = option_map (λ i. (id_at table i, with_row table i key value)) (free_index table)
