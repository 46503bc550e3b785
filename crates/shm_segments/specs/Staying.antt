-- The pages after a call that moves none. Segments may end in it, and leave their frames and slots free.
use Rattle.std.specs.Prelude.{ℕ, ◌≡◌, Bool, true, false, not, ◌&&◌, if◌then◌else◌, Option, Some, None, length}
use Rattle.shm_base.specs.declared.paging.PageRef.{PageRef}
use Rattle.shm_base.specs.declared.paging.Slot.{Slot}
use Rattle.shm_slots.specs.View.{owner_of, sizes}
use Rattle.shm_slots.specs.Cause.{total}
use Rattle.shm_frames.specs.Frame.{Frame, no_frame, frame_at}
use Rattle.shm_fault.specs.Counting.{IsUncounted}
use Rattle.shm_fault.specs.Held.{is_held}
use Rattle.shm_fault.specs.Placing.{bare}
use Rattle.shm_fault.specs.Segs.{rec_by}
use Rattle.shm_fault.specs.Store.{StoreView, held}

-- the segment was there before, and is not there afterwards
abbrev pub has_ended : StoreView → StoreView → ℕ → Bool
has_ended before after seg = is_held (held before) seg && not (is_held (held after) seg)

abbrev pub is_lost : (ℕ → Bool) → Option PageRef → Bool
is_lost ended None = false
is_lost ended (Some r) = ended r.seg

-- the page in a slot; none if its segment ended
abbrev pub owner_left : (ℕ → Bool) → Option PageRef → Option PageRef
owner_left ended owner = if is_lost ended owner then None else owner

-- a frame without its bytes: its page and bits, or a free frame if the page's segment ended
abbrev pub frame_left : (ℕ → Bool) → Frame → Frame
frame_left ended x = if is_lost ended x.owner then no_frame else bare x

-- every segment that was there is there
abbrev pub EndsNone : StoreView → StoreView → Type 0
EndsNone before after = (seg : ℕ) → is_held (held before) seg ≡ true → is_held (held after) seg ≡ true

-- Where the pages are afterwards, and what is counted. A new segment's pages are nowhere, as pages of no segment are.
pub record MovesNone (before after : StoreView) : Type 0 where
  pub pages : (r : PageRef) → is_held (held after) r.seg ≡ true → rec_by after.segs r ≡ rec_by before.segs r
  pub frames : (f : ℕ) → bare (frame_at after.frames f) ≡ frame_left (has_ended before after) (frame_at before.frames f)
  pub slots : (k : Slot)
      → owner_of after.swap k.area k.slot ≡ owner_left (has_ended before after) (owner_of before.swap k.area k.slot)
  pub hand : after.hand ≡ before.hand
  pub count : length after.frames ≡ length before.frames
  pub same_sizes : sizes after.swap ≡ sizes before.swap
  -- nothing was read or written, and no failure was counted
  pub uncounted : IsUncounted before after
  pub failures : total after.swap ≡ total before.swap
  -- where no segment ended, nothing changed but the list of segments
  pub still : EndsNone before after → after ≡ record before { segs = after.segs }

-- segments may have ended; none was added
pub record Ends (before after : StoreView) : Type 0 where
  pub moves : MovesNone before after
  pub fewer : EndsNone after before
