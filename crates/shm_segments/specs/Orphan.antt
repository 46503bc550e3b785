-- Segments that are marked and have no pieces.
use Rattle.std.specs.Prelude.{◌==◌, ◌&&◌, ℕ, Bool, false, List, Option, Some, None, slice_get}
use Rattle.shm_base.specs.State.{Segment, Entry, Runner}
use Rattle.shm_base.specs.Identifier.{identifier}
use Rattle.shm_base.specs.Segments.{attach_count}

abbrev pub is_orphan : List Runner → ℕ → Option Segment → Bool
is_orphan rs id None = false
is_orphan rs id (Some s) = s.dest && (attach_count rs id == 0)

abbrev pub orphan_in : ℕ → List Runner → Option Entry → Bool
orphan_in i rs None = false
orphan_in i rs (Some e) = is_orphan rs (identifier i e.destroyed) e.segment

-- the segment at an index is marked and has no pieces
abbrev pub orphan : List Runner → List Entry → ℕ → Bool
orphan rs table i = orphan_in i rs (slice_get table i)

abbrev pub id_in : ℕ → Option Entry → ℕ
id_in i None = i
id_in i (Some e) = identifier i e.destroyed

-- the identifier at an index
abbrev pub identifier_at : List Entry → ℕ → ℕ
identifier_at table i = id_in i (slice_get table i)
