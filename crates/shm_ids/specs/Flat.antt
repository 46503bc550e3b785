-- The table, as the flat machine shows it.
use Rattle.std.specs.Prelude.{◌≡◌, ℕ, ◌+◌, ℤ, pos, negsuc, List, [], ◌∷◌, Option, Some, None, option_map, Result, Ok, Err}
use Rattle.shm_base.specs.State.{Segment, Entry as FlatEntry}
use Rattle.shm_base.specs.Identifier as flat
use Rattle.shm_ids.specs.declared.table.Entry.{Entry}
use Rattle.shm_ids.specs.declared.table.Row.{Row}
use Rattle.shm_ids.specs.declared.table.LookRefused.{LookRefused}
use Rattle.shm_ids.specs.declared.table.LookRefused.TheVariants.{Removed, Invalid}
use Rattle.shm_ids.specs.Table.{identifier, key_at, index_of}

-- an identifier as a natural number
abbrev pub natural_of : ℤ → ℕ
natural_of (pos n) = n
natural_of (negsuc n) = 0

-- `make` shows the segment of a row under an identifier
module _ {T : Type 0} (make : ℕ → Row T → Segment) where
  abbrev pub flat_entry : ℕ → Entry T → FlatEntry
  flat_entry i e = record { destroyed = e.destroyed; segment = option_map (make (identifier i e.destroyed)) e.row }

  abbrev pub flat_from : ℕ → List (Entry T) → List FlatEntry
  flat_from i [] = []
  flat_from i (e ∷ es) = flat_entry i e ∷ flat_from (i + 1) es

  -- the flat machine's table
  abbrev pub flat_table : List (Entry T) → List FlatEntry
  flat_table t = flat_from 0 t

  -- the flat machine's answer about an index, an identifier and a key, by the table's answer
  abbrev pub flat_answer : ℕ → ℕ → ℕ → Result T LookRefused → flat.Look
  flat_answer i id key (Ok v) = flat.Found i (make id (record { key = key; value = v }))
  flat_answer i id key (Err Removed) = flat.Removed
  flat_answer i id key (Err Invalid) = flat.Invalid

  -- the flat machine's answer about an identifier
  abbrev pub flat_look : List (Entry T) → ℤ → Result T LookRefused → flat.Look
  flat_look t id r = flat_answer (index_of id) (natural_of id) (key_at t (index_of id)) r

  -- the flat machine's answer about a key, by the index that the table returns and the entry there
  abbrev pub flat_found : (ℕ → Entry T) → Option ℕ → flat.Look
  flat_found at None = flat.Invalid
  flat_found at (Some i) = flat.look_segment i (option_map (make (identifier i (at i).destroyed)) (at i).row)

  -- a row is shown with its own key
  abbrev pub ShowsKeys : Type 0
  ShowsKeys = (id : ℕ) (r : Row T) → (make id r).key ≡ r.key
