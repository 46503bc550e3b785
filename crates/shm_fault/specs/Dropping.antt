-- A page that loses its frame and its slot.
use Rattle.std.specs.Prelude.{ℕ, ◌≡◌, ◌≢◌, ◌<◌, List, Option, Some, None, length, set, MatchOption}
use Rattle.shm_base.specs.declared.paging.PageRef.{PageRef}
use Rattle.shm_base.specs.declared.paging.Slot.{Slot}
use Rattle.shm_fault.specs.Held.{without}
use Rattle.shm_slots.specs.View.{SwapView, HasSlot, owner_of, page_in, sizes, without_slot}
use Rattle.shm_slots.specs.Cause.{GoesOn, IsSteady, total}
use Rattle.shm_frames.specs.Frame.{Frame, no_frame, frame_at}
use Rattle.shm_fault.specs.Segs.{but, count_by_id, rec_by, no_page, with_rec}
use Rattle.shm_fault.specs.Store.{StoreView, held, frame_of, disowned}
use Rattle.shm_fault.specs.Sound.{IsStoreSound}
use Rattle.shm_fault.specs.Goes.{outlines}
use Rattle.shm_fault.specs.Counting.{IsUncounted}
use Rattle.shm_fault.specs.Placing.{places, after_forget, after_forgets, without_segment}

-- the frames, with one of them made free
abbrev pub emptied : List Frame → Option ℕ → List Frame
emptied frames None = frames
emptied frames (Some f) = set frames f (record no_frame { bytes = (frame_at frames f).bytes })

-- the slot was returned, if there is one
abbrev pub Given : SwapView → Option Slot → SwapView → Type 0
Given before slot after =
    MatchOption slot (after ≡ before) (λ k. after ≡ without_slot before k (page_in after k.area k.slot))

abbrev pub FrameThere : List Frame → Option ℕ → Type 0
FrameThere frames frame = (f : ℕ) → frame ≡ Some f → f < length frames

abbrev pub SlotThere : SwapView → Option Slot → Type 0
SlotThere swap slot = (k : Slot) → slot ≡ Some k → HasSlot swap k.area k.slot

-- no page of the segment has a frame or a slot
abbrev pub IsBlank : ℕ → StoreView → Type 0
IsBlank seg s = (page : ℕ) → rec_by s.segs (record { seg = seg; page = page }) ≡ no_page

-- except for pages of this segment, frames have the same owners
abbrev pub SameInFrames : ℕ → List Frame → List Frame → Type 0
SameInFrames seg before after =
    (f : ℕ) → disowned seg (frame_at after f).owner ≡ disowned seg (frame_at before f).owner

abbrev pub SameInSlots : ℕ → SwapView → SwapView → Type 0
SameInSlots seg before after =
    (k : Slot) → disowned seg (owner_of after k.area k.slot) ≡ disowned seg (owner_of before k.area k.slot)

-- no frame has a page of the segment, and the other frames have the same owners
abbrev pub LeavesFrames : ℕ → List Frame → List Frame → Type 0
LeavesFrames seg before after = (f : ℕ) → (frame_at after f).owner ≡ disowned seg (frame_at before f).owner

abbrev pub LeavesSlots : ℕ → SwapView → SwapView → Type 0
LeavesSlots seg before after =
    (area slot : ℕ) → owner_of after area slot ≡ disowned seg (owner_of before area slot)

-- pages of a segment may have lost their frames and slots; nothing of any other segment changed
pub record Frees (seg : ℕ) (s t : StoreView) : Type 0 where
  pub shape : outlines t.segs ≡ outlines s.segs
  pub bytes : without (held t) seg ≡ without (held s) seg
  pub frames : SameInFrames seg s.frames t.frames
  pub slots : SameInSlots seg s.swap t.swap
  pub size : length t.frames ≡ length s.frames
  pub steady : IsSteady s.swap t.swap
  pub rest : IsUncounted s t

-- the first pages of a segment have neither frame nor slot
pub record Dropped (seg n : ℕ) (s t : StoreView) : Type 0 where
  pub frees : Frees seg s t
  pub still : (q : PageRef) → (q.seg ≡ seg → ⊥) → rec_by t.segs q ≡ rec_by s.segs q
  pub done : (page : ℕ) → page < n → rec_by t.segs (record { seg = seg; page = page }) ≡ no_page
  pub nothing : IsBlank seg s → t ≡ s
  pub placed : places t ≡ after_forgets seg n (places s)

-- if the pages below `first` were dropped before, those below `last` are dropped after
abbrev pub DropsOn : ℕ → ℕ → ℕ → StoreView → StoreView → Type 0
DropsOn seg first last s t =
    (b : StoreView) → Dropped seg first b s → Dropped seg last b t

-- one page has neither frame nor slot any more
pub record Forgets (page : PageRef) (s t : StoreView) : Type 0 where
  pub frees : Frees page.seg s t
  pub segs : t.segs ≡ with_rec s.segs page no_page
  pub placed : places t ≡ after_forget page (places s)
  pub nowhere : rec_by s.segs page ≡ no_page → t ≡ s

-- a segment was dropped: no frame or slot has a page of it, and the other segments are unchanged
pub record Drops (seg : ℕ) (s t : StoreView) : Type 0 where
  pub held : held t ≡ without (held s) seg
  pub frames : LeavesFrames seg s.frames t.frames
  pub slots : LeavesSlots seg s.swap t.swap
  pub still : (other page : ℕ) → other ≢ seg → frame_of t other page ≡ frame_of s other page
  pub counts : (total t.swap ≡ total s.swap) × GoesOn s.swap t.swap
  pub sizes : sizes t.swap ≡ sizes s.swap
  pub count : length t.frames ≡ length s.frames
  pub rest : IsUncounted s t
  pub places : places t ≡ without_segment seg (after_forgets seg (count_by_id s.segs seg) (places s))
  pub blank : IsBlank seg s → t ≡ record s { segs = but seg s.segs }
  pub sound : IsStoreSound t
