-- The invariant of every page store.
use Rattle.std.specs.Prelude.{ℕ, ◌≡◌, ◌<◌, ◌≤◌, ◌+◌, false, Some, None, length, sum_by}
use Rattle.shm_base.specs.declared.paging.PageRef.{PageRef}
use Rattle.shm_base.specs.declared.paging.Slot.{Slot}
use Rattle.shm_slots.specs.View.{HasSlot, owner_of, swap_slots, IsSwap}
use Rattle.shm_frames.specs.Frame.{frame_at}
use Rattle.shm_fault.specs.Segs.{rec_by, HasPage, AreApart, page_count, locked_pages}
use Rattle.shm_fault.specs.Store.{StoreView, slot_bytes, page_bytes, resident, dirty, used}
use Rattle.shm_base.specs.declared.bounds.TheConstants.{MOST_FRAMES}
use Rattle.shm_base.specs.declared.paging.TheConstants.{PAGE_SIZE}

-- a page and its frame name each other, so do a page and its slot, and a clean page equals its stored bytes
pub record IsTied (s : StoreView) (r : PageRef) : Type 0 where
  pub frame_owned : (f : ℕ) → (rec_by s.segs r).frame ≡ Some f
      → (f < length s.frames) × ((frame_at s.frames f).owner ≡ Some r)
  pub owner_resident : (f : ℕ) → (frame_at s.frames f).owner ≡ Some r → (rec_by s.segs r).frame ≡ Some f
  pub slot_owned : (k : Slot) → (rec_by s.segs r).slot ≡ Some k
      → HasSlot s.swap k.area k.slot × (owner_of s.swap k.area k.slot ≡ Some r)
  pub owner_stored : (k : Slot) → owner_of s.swap k.area k.slot ≡ Some r → (rec_by s.segs r).slot ≡ Some k
  pub clean : (f : ℕ) → (rec_by s.segs r).frame ≡ Some f → (frame_at s.frames f).dirty ≡ false
      → (frame_at s.frames f).bytes ≡ slot_bytes s.swap (rec_by s.segs r).slot
  pub whole : length (page_bytes s.frames s.swap (rec_by s.segs r)) ≡ PAGE_SIZE

-- the same for every page, and frames and slots have no other owners
pub record Tied (s : StoreView) : Type 0 where
  pub pages : (r : PageRef) → HasPage s.segs r → IsTied s r
  pub owners : (f : ℕ) (r : PageRef) → (frame_at s.frames f).owner ≡ Some r → HasPage s.segs r
  pub slot_owners : (k : Slot) (r : PageRef) → owner_of s.swap k.area k.slot ≡ Some r → HasPage s.segs r
  pub free : (f : ℕ) → (frame_at s.frames f).owner ≡ None → (frame_at s.frames f).dirty ≡ false

pub record IsStoreSound (s : StoreView) : Type 0 where
  pub tied : Tied s
  pub apart : AreApart s.segs
  pub frames : (2 ≤ length s.frames) × (length s.frames ≤ MOST_FRAMES)
  pub swap : IsSwap s.swap
  pub hand : s.hand < length s.frames
  pub capacity : sum_by page_count s.segs ≤ swap_slots s.swap
  pub locked : sum_by locked_pages s.segs + 2 ≤ length s.frames
  pub few_resident : resident s ≤ length s.frames
  pub few_dirty : dirty s ≤ resident s
  pub few_used : used s ≤ sum_by page_count s.segs
