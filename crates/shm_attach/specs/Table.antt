-- The frames of a segment's pages, and when they are true.
use Rattle.std.specs.Prelude.{◌≡◌, ℕ, ◌+◌, ◌<◌, if◌then◌else◌, List, [], ◌∷◌, length, get_or, Option, Some, None, ⊤}
use Rattle.std.specs.List.{flat_map}
use Rattle.slab.specs.Slab.{Slab, get}
use Rattle.shm_base.specs.declared.paging.PageRef.{PageRef}
use Rattle.shm_fault.specs.Steps.{is_page}
use Rattle.shm_attach.specs.Spaces.{Translation}

-- a table: its segment, how many pieces the segment has, and the frames of its first pages
pub record TableView : Type 0 where
  pub seg : ℕ
  pub count : ℕ
  pub frames : List (Option ℕ)

abbrev pub translations_from : ℕ → ℕ → List (Option ℕ) → List Translation
translations_from seg page [] = []
translations_from seg page (f ∷ fs) = record { seg = seg; page = page; frame = f } ∷ translations_from seg (page + 1) fs

abbrev pub translations_in : Option TableView → List Translation
translations_in None = []
translations_in (Some e) = translations_from e.seg 0 e.frames

-- the translations of all attached segments
abbrev pub translations_of : Slab TableView → List Translation
translations_of t = flat_map translations_in t.slots

abbrev pub frame_in : Option TableView → ℕ → Option ℕ
frame_in None j = None
frame_in (Some e) j = get_or e.frames j None

-- the segment of a table
abbrev pub seg_in : Option TableView → Option ℕ
seg_in None = None
seg_in (Some e) = Some e.seg

-- the number of pieces that a table counts
abbrev pub count_in : Option TableView → ℕ
count_in None = 0
count_in (Some e) = e.count

-- the number of pages that a table has
abbrev pub size_in : Option TableView → ℕ
size_in None = 0
size_in (Some e) = length e.frames

-- THE RESIDENCY, AS A FUNCTION OF SEGMENT AND PAGE

-- each frame is that of its page
abbrev pub TrueTable : (ℕ → ℕ → Option ℕ) → TableView → Type 0
TrueTable at e = (j : ℕ) → j < length e.frames → get_or e.frames j None ≡ at e.seg j

abbrev pub TrueSlot : (ℕ → ℕ → Option ℕ) → Option TableView → Type 0
TrueSlot at None = ⊤
TrueSlot at (Some e) = TrueTable at e

abbrev pub AllTrue : (ℕ → ℕ → Option ℕ) → Slab TableView → Type 0
AllTrue at t = (key : ℕ) → TrueSlot at (get t key)

-- a residency, with another frame for one page
abbrev pub with_frame : PageRef → Option ℕ → (ℕ → ℕ → Option ℕ) → ℕ → ℕ → Option ℕ
with_frame r f at seg page = if is_page r seg page then f else at seg page
