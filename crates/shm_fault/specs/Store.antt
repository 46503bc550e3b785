-- What contracts see of the page store: where each page of each segment is, and its bytes.
use Rattle.std.specs.Prelude.{ℕ, ◌≡◌, Bool, true, false, not, ◌==◌, ◌&&◌, if◌then◌else◌, List, [], Option, Some, None, map, is_some, sum_by, count_by, set, length, ◌<◌}
use Rattle.std.specs.List.{flat_map}
use Rattle.shm_base.specs.declared.paging.PageRef.{PageRef}
use Rattle.shm_base.specs.declared.paging.Slot.{Slot}
use Rattle.shm_base.specs.declared.paging.Span.{Span}
pub use Rattle.shm_base.specs.Spans.{page_of}
use Rattle.shm_fault.specs.Held.{Held}
use Rattle.shm_base.specs.Page.{zero_page}
use Rattle.shm_slots.specs.View.{SwapView, page_in}
use Rattle.shm_frames.specs.Frame.{Frame, frame_at}
use Rattle.shm_fault.specs.declared.page_tables.PageRec.{PageRec}
use Rattle.shm_fault.specs.Segs.{SegRec, rec_by}

pub record StoreView : Type 0 where
  pub segs : List SegRec
  pub frames : List Frame
  pub hand : ℕ
  pub swap : SwapView
  pub ins : ℕ
  pub outs : ℕ

-- the bytes of a page in its slot; zeros if it has none
abbrev pub slot_bytes : SwapView → Option Slot → List ℕ
slot_bytes swap None = zero_page
slot_bytes swap (Some k) = page_in swap k.area k.slot

-- the bytes of a page: those in its frame if it is resident
abbrev pub bytes_by : List Frame → SwapView → Option ℕ → Option Slot → List ℕ
bytes_by frames swap None slot = slot_bytes swap slot
bytes_by frames swap (Some f) slot = (frame_at frames f).bytes

abbrev pub page_bytes : List Frame → SwapView → PageRec → List ℕ
page_bytes frames swap p = bytes_by frames swap p.frame p.slot

abbrev pub held_by : List Frame → SwapView → SegRec → Held
held_by frames swap g =
    record { id = g.id; locked = g.locked; bytes = flat_map (page_bytes frames swap) g.pages }

-- the segments with their bytes
unfoldable pub held : StoreView → List Held
held s = map (held_by s.frames s.swap) s.segs

-- where a page is
abbrev pub rec_of : StoreView → ℕ → ℕ → PageRec
rec_of s seg page = rec_by s.segs (record { seg = seg; page = page })

-- the residency: the frame of a page, if it is resident
unfoldable pub frame_of : StoreView → ℕ → ℕ → Option ℕ
frame_of s seg page = (rec_of s seg page).frame

-- no page moves into, out of or between frames
abbrev pub Still : StoreView → StoreView → Type 0
Still s t = (seg page : ℕ) → frame_of t seg page ≡ frame_of s seg page

abbrev pub ref_of : Span → PageRef
ref_of p = record { seg = p.seg; page = page_of p }

abbrev pub IsResident : StoreView → Span → Type 0
IsResident s p = is_some (frame_of s p.seg (page_of p)) ≡ true

abbrev pub bit_of : List Frame → Option ℕ → Bool
bit_of frames None = false
bit_of frames (Some f) = (frame_at frames f).referenced

-- the span's page is resident, and its referenced bit is set
abbrev pub IsReferenced : StoreView → Span → Type 0
IsReferenced s p = bit_of s.frames (frame_of s p.seg (page_of p)) ≡ true

abbrev pub has_frame : PageRec → Bool
has_frame p = is_some p.frame

abbrev pub has_slot : PageRec → Bool
has_slot p = is_some p.slot

abbrev pub dirty_in : List Frame → Option ℕ → Bool
dirty_in frames None = false
dirty_in frames (Some f) = (frame_at frames f).dirty

abbrev pub is_dirty_page : List Frame → PageRec → Bool
is_dirty_page frames p = dirty_in frames p.frame

-- how many pages are resident, counted over the segments
abbrev pub resident : StoreView → ℕ
resident s = sum_by (λ (g : SegRec). count_by has_frame g.pages) s.segs

abbrev pub dirty : StoreView → ℕ
dirty s = sum_by (λ (g : SegRec). count_by (is_dirty_page s.frames) g.pages) s.segs

abbrev pub used : StoreView → ℕ
used s = sum_by (λ (g : SegRec). count_by has_slot g.pages) s.segs

abbrev pub is_swapped : PageRec → Bool
is_swapped p = not (is_some p.frame) && is_some p.slot

-- how many pages are in a slot and in no frame: of a segment, and of all segments
abbrev pub swapped_pages : SegRec → ℕ
swapped_pages g = count_by is_swapped g.pages

abbrev pub swapped : StoreView → ℕ
swapped s = sum_by swapped_pages s.segs

abbrev pub is_page : PageRef → ℕ → ℕ → Bool
is_page r seg page = (r.seg == seg) && (r.page == page)

-- the frames, with one of them marked as dirty or clean
abbrev pub marked : List Frame → ℕ → Bool → List Frame
marked frames f dirty = set frames f (record (frame_at frames f) { dirty = dirty })

-- a frame that has no page
abbrev pub IsFreeFrame : List Frame → ℕ → Type 0
IsFreeFrame frames f = (f < length frames) × ((frame_at frames f).owner ≡ None)

-- a new store
abbrev pub fresh_store : List Frame → SwapView → StoreView
fresh_store frames swap =
    record { segs = []; frames = frames; hand = 0; swap = swap; ins = 0; outs = 0 }

-- the owner; none if it is a page of the segment
abbrev pub disowned : ℕ → Option PageRef → Option PageRef
disowned seg None = None
disowned seg (Some r) = if r.seg == seg then None else Some r
