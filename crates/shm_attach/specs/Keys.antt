-- The keys of tables by segment index.
use Rattle.std.specs.Prelude.{◌≡◌, ℕ, ◌%◌, ◌==◌, if◌then◌else◌, List, Option, Some, None, slice_index_or, ⊤}
use Rattle.shm_attach.specs.declared.keys.Keyed.{Keyed}
use Rattle.shm_base.specs.declared.bounds.TheConstants.{INDEXES}

abbrev pub entry_at : List (Option Keyed) → ℕ → Option Keyed
entry_at es i = slice_index_or es i None

abbrev pub key_for : ℕ → Option Keyed → Option ℕ
key_for id None = None
key_for id (Some e) = if e.seg == id then Some e.key else None

-- the key of a segment's table
unfoldable pub key_at : List (Option Keyed) → ℕ → Option ℕ
key_at es id = key_for id (entry_at es (id % INDEXES))

abbrev pub IsAt : ℕ → Option Keyed → Type 0
IsAt i None = ⊤
IsAt i (Some e) = e.seg % INDEXES ≡ i

-- each segment is at its index
abbrev pub AreInPlace : List (Option Keyed) → Type 0
AreInPlace es = (i : ℕ) → IsAt i (entry_at es i)
