-- How the tables of the attached segments match the pieces.
use Rattle.std.specs.Prelude.{◌≡◌, ℕ, ◌+◌, ◌<◌, ◌≤◌, List, [], slice_get, Option, Some, None, All}
use Rattle.slab.specs.Slab.{Slab, get}
use Rattle.shm_base.specs.declared.paging.PageRef.{PageRef}
use Rattle.shm_areas.specs.declared.piece.Piece.{Piece}
use Rattle.shm_attach.specs.declared.process.Runner.{Runner}
use Rattle.shm_attach.specs.declared.tables.Tables.{Tables}
use Rattle.shm_attach.specs.Keys.{key_at}
use Rattle.shm_attach.specs.Table.{AllTrue, TableView, seg_in, count_in, size_in, with_frame}

abbrev pub counted_under : Slab TableView → Option ℕ → ℕ
counted_under s None = 0
counted_under s (Some key) = count_in (get s key)

-- the key of a segment's table
abbrev pub key_of : Tables → ℕ → Option ℕ
key_of t id = key_at t.keys id

-- the stored number of pieces of a segment
abbrev pub counted : Tables → ℕ → ℕ
counted t id = counted_under t.slab (key_of t id)

-- the same tables under the same keys
pub record AreSameTables (t copy : Tables) : Type 0 where
  pub keyed : (id : ℕ) → key_of copy id ≡ key_of t id
  pub slots : copy.slab.slots ≡ t.slab.slots

-- a segment has exactly one table if it has pieces, and none otherwise
pub record OneTableEach (t : Tables) : Type 0 where
  pub keyed : (id key : ℕ) → key_of t id ≡ Some key → seg_in (get t.slab key) ≡ Some id
  pub named : (id key : ℕ) → seg_in (get t.slab key) ≡ Some id → key_of t id ≡ Some key
  pub some : (id : ℕ) → counted t id ≡ 0 → key_of t id ≡ None

-- the piece's key finds a table of its segment, and the table has its pages
pub record HasTable (t : Slab TableView) (p : Piece) : Type 0 where
  pub seg : seg_in (get t p.key) ≡ Some p.seg
  pub pages : p.first_page + p.pages ≤ size_in (get t p.key)

abbrev pub stored_in : Option (ℕ × Runner) → List Piece
stored_in None = []
stored_in (Some e) = e.1.space.pieces

-- the pieces of the process at an index, with their keys
abbrev pub stored_at : List (ℕ × Runner) → ℕ → List Piece
stored_at es i = stored_in (slice_get es i)

-- every piece has its table
abbrev pub AllHaveTables : List (ℕ × Runner) → Slab TableView → Type 0
AllHaveTables es t = (i : ℕ) → All (HasTable t) (stored_at es i)

-- THROUGH A CHANGE

-- the counts are unchanged
abbrev pub KeepCounts : Tables → Tables → Type 0
KeepCounts t u = (id : ℕ) → counted u id ≡ counted t id

-- each piece that had its table still has it; or does so if its segment is still counted
abbrev pub KeepTables : Slab TableView → Slab TableView → Type 0
KeepTables t u = (p : Piece) → HasTable t p → HasTable u p

abbrev pub KeepCounted : Tables → Tables → Type 0
KeepCounted t u = (p : Piece) → HasTable t.slab p → 0 < counted u p.seg → HasTable u.slab p

-- frames that were true of a residency still are
abbrev pub KeepFrames : Slab TableView → Slab TableView → Type 0
KeepFrames t u = (at : ℕ → ℕ → Option ℕ) → AllTrue at t → AllTrue at u

-- the frame of a page was noted: the counts and tables are unchanged, and what was true of a residency is true of it with this
-- frame for the page
pub record Notes (page : PageRef) (frame : Option ℕ) (t u : Tables) : Type 0 where
  pub counts : KeepCounts t u
  pub tables : KeepTables t.slab u.slab
  pub translated : (at : ℕ → ℕ → Option ℕ) → AllTrue at t.slab → AllTrue (with_frame page frame at) u.slab
  pub tied : OneTableEach u
