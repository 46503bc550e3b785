-- Frames, as callers see them.
use Rattle.std.specs.Prelude.{◌≡◌, ℕ, ◌<◌, ◌≤◌, Bool, true, false, Option, None, Some, is_none, is_some, List, [], length, get_or, count_by}
use Rattle.shm_base.specs.declared.paging.PageRef.{PageRef}

-- a frame: its owner, its bytes, its two bits, and whether its page is on loan to the host
pub record Frame : Type 0 where
  pub owner : Option PageRef
  pub bytes : List ℕ
  pub referenced : Bool
  pub dirty : Bool
  pub lent : Bool

-- the value beyond the last frame: a free frame with no bytes
abbrev pub no_frame : Frame
no_frame = record { owner = None; bytes = []; referenced = false; dirty = false; lent = false }

abbrev pub frame_at : List Frame → ℕ → Frame
frame_at frames i = get_or frames i no_frame

abbrev pub is_free : Frame → Bool
is_free f = is_none f.owner

abbrev pub is_owned : Frame → Bool
is_owned f = is_some f.owner

abbrev pub is_dirty : Frame → Bool
is_dirty f = f.dirty

-- how many frames are owned
abbrev pub resident_of : List Frame → ℕ
resident_of frames = count_by is_owned frames

-- how many frames are dirty
abbrev pub dirty_of : List Frame → ℕ
dirty_of frames = count_by is_dirty frames

abbrev pub is_lent : Frame → Bool
is_lent f = f.lent

-- how many frames have a page on loan
abbrev pub lent_of : List Frame → ℕ
lent_of frames = count_by is_lent frames

-- the frame has no owner, and its bits are clear
abbrev pub IsFrameBlank : List Frame → ℕ → Type 0
IsFrameBlank frames i = frame_at frames i ≡ record no_frame { bytes = (frame_at frames i).bytes }

-- frames without an owner have clear bits
abbrev pub FreeAreClear : List Frame → Type 0
FreeAreClear frames = (i : ℕ) → (frame_at frames i).owner ≡ None → IsFrameBlank frames i

-- each frame below n has an owner
abbrev pub OwnedBelow : List Frame → ℕ → Type 0
OwnedBelow frames n = (i : ℕ) → i < n → is_free (frame_at frames i) ≡ false

-- the frame is free, and none below it is
pub record IsLeastFree (frames : List Frame) (i : ℕ) : Type 0 where
  pub there : i < length frames
  pub free : (frame_at frames i).owner ≡ None
  pub least : OwnedBelow frames i

-- the frame is dirty, and not below `from`
pub record IsDirtyFrom (frames : List Frame) (from i : ℕ) : Type 0 where
  pub there : i < length frames
  pub past : from ≤ i
  pub dirty : (frame_at frames i).dirty ≡ true

-- the frames from `from` on are clean, up to the one that was found, or all of them
abbrev pub AreCleanUpTo : List Frame → ℕ → Option ℕ → Type 0
AreCleanUpTo frames from None = (i : ℕ) → from ≤ i → (frame_at frames i).dirty ≡ false
AreCleanUpTo frames from (Some n) = (i : ℕ) → from ≤ i → i < n → (frame_at frames i).dirty ≡ false
