-- How many pages of a segment are in frames, and how many only in slots.
use Rattle.std.specs.Prelude.{ℕ, zero, suc, ◌≡◌, ◌+◌, ◌==◌, Bool, true, false, ◌&&◌, if◌then◌else◌, Option, Some, None, count_by, is_none, is_some, sum_by}
use Rattle.shm_base.specs.State.{Machine}
use Rattle.shm_base.specs.declared.paging.PageRef.{PageRef}
use Rattle.shm_fault.specs.Store.{StoreView, frame_of}
use Rattle.shm_segments.specs.Table.{live, pages_at}
use Rattle.shm_slots.specs.View.{AreaView}
use Rattle.shm_life.specs.declared.residency.SegmentPages.{SegmentPages}

-- how many of the first n pages of a segment are in frames
abbrev pub resident_below : StoreView → ℕ → ℕ → ℕ
resident_below s seg zero = 0
resident_below s seg (suc n) = resident_below s seg n + (if is_some (frame_of s seg n) then 1 else 0)

-- a slot's owner is a page of the segment that is in no frame
abbrev pub is_away : StoreView → ℕ → Option PageRef → Bool
is_away s seg None = false
is_away s seg (Some r) = (r.seg == seg) && is_none (frame_of s seg r.page)

abbrev pub away_in : StoreView → ℕ → AreaView → ℕ
away_in s seg a = count_by (is_away s seg) a.owners

-- how many slots have such a page; a page has at most one
abbrev pub swapped_of : StoreView → ℕ → ℕ
swapped_of s seg = sum_by (away_in s seg) s.swap.areas

-- the pages of a segment that exists; none if it does not
abbrev pub ShowsPages : Machine → StoreView → ℕ → Option SegmentPages → Type 0
ShowsPages m s seg None = live m.table seg ≡ None
ShowsPages m s seg (Some x) =
    (is_some (live m.table seg) ≡ true)
    × (x.resident ≡ resident_below s seg (pages_at m.table seg))
    × (x.swapped ≡ swapped_of s seg)
