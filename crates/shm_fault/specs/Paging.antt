-- The effects of the steps of a page fault, whether they succeed or not.
use Rattle.std.specs.Prelude.{ℕ, ◌≡◌, ◌<◌, ◌≤◌, ◌+◌, List, set, ◌&&◌, Bool, true, false, not, Option, Some, None, Result, MatchResult, IfOk, OnOk, OnErr, is_ok, is_some, length}
use Rattle.shm_base.specs.declared.paging.PageRef.{PageRef}
use Rattle.shm_base.specs.declared.paging.Slot.{Slot}
use Rattle.shm_slots.specs.View.{SwapView, SameSlots, IsSwap, area_at, sizes, with_calls_at}
use Rattle.shm_slots.specs.Cause.{Counts, GoesOn, total}
use Rattle.shm_clock.specs.Clock.{may_go}
use Rattle.shm_frames.specs.Frame.{Frame, frame_at, no_frame}
use Rattle.shm_fault.specs.declared.paging.Evicted.{Evicted}
use Rattle.shm_fault.specs.declared.touched.Touched.{Touched}
use Rattle.shm_fault.specs.Segs.{rec_by, with_rec}
use Rattle.shm_fault.specs.Store.{StoreView, Still, IsFreeFrame, marked, slot_bytes}
use Rattle.shm_fault.specs.Sound.{IsStoreSound}
use Rattle.shm_fault.specs.Goes.{Goes, Alike, unlocked, StaysAway, Visits, MovesOn, OnlyMoves, OnlyWrites, CountsFailure, IsSlotOf, frame_by, referenced_at}
use Rattle.shm_fault.specs.Counting.{counted, raised, one_if, CountsOn}
use Rattle.shm_fault.specs.Placing.{places, after_page_out, after_clean, after_turn, after_eviction, after_room, frame_for, room_counted, settled, slotted, vacated, victim_in, with_bit, StopsAtWrite}

-- a page was read from its slot: at most the calls of the slot's area are others
abbrev pub IsRead : Option Slot → SwapView → SwapView → Type 0
IsRead None before after = after ≡ before
IsRead (Some k) before after = after ≡ with_calls_at before k.area (area_at after k.area).calls

-- A frame got the bytes of a slot, or zeros. If a pager failed its bytes are unknown.
pub record FillsFrom
    {A E : Type 0} (frame : ℕ) (from : Option Slot) (before after : List Frame) (old new : SwapView)
    (result : Result A E) : Type 0 where
  pub frames : after ≡ set before frame (record (frame_at before frame) { bytes = (frame_at after frame).bytes })
  pub bytes : OnOk result ((frame_at after frame).bytes ≡ slot_bytes old from)
  pub swap : OnOk result (IsRead from old new)
  pub kept : SameSlots old new
  pub slot : OnErr result (is_some from ≡ true)
  pub failures : Counts (is_ok result) old new
  pub goes_on : GoesOn old new
  pub sizes : sizes new ≡ sizes old
  pub sound : IsSwap old → IsSwap new

-- The clock chose the frame of its victim. It may have cleared referenced bits, but not that of the pinned frame.
pub record NamesVictim (pinned : Option ℕ) (s t : StoreView) (frame : ℕ) : Type 0 where
  pub there : frame < length s.frames
  pub may : may_go (unlocked s.segs) pinned s.frames frame ≡ true
  pub alike : (f : ℕ) → Alike (frame_at s.frames f) (frame_at t.frames f)
  pub pin : (p : ℕ) → pinned ≡ Some p → frame_at t.frames p ≡ frame_at s.frames p
  pub rest : t ≡ record s { frames = t.frames; hand = t.hand }
  pub placed : places t ≡ after_turn pinned (places s)
  pub chosen : frame ≡ victim_in pinned (places s)
  pub goes : Goes s t

-- a page left its frame, which was clean, and keeps its slot if it has one
pub record Leaves (frame : ℕ) (s t : StoreView) (it : PageRef) : Type 0 where
  pub page : (frame_at s.frames frame).owner ≡ Some it
  pub was : (rec_by s.segs it).frame ≡ Some frame
  pub frames : t.frames ≡ set s.frames frame (record no_frame { bytes = (frame_at s.frames frame).bytes })
  pub segs : t.segs ≡ with_rec s.segs it (record (rec_by s.segs it) { frame = None })
  pub rest : t ≡ record s { segs = t.segs; frames = t.frames }
  pub placed : places t ≡ vacated frame (places s)
  pub goes : Goes s t
  pub sound : IsStoreSound t

-- a free frame got a page's bytes, from its slot or zeros; if the read failed it is still free
pub record Loads
    {A E : Type 0} (frame : ℕ) (from : Option Slot) (s t : StoreView) (result : Result A E) : Type 0 where
  pub bytes : OnOk result ((frame_at t.frames frame).bytes ≡ slot_bytes s.swap from)
  pub swap : OnOk result (IsRead from s.swap t.swap)
  pub kept : SameSlots s.swap t.swap
  pub rest : t ≡ record s { frames = t.frames; swap = t.swap; ins = t.ins }
  pub ins : t.ins ≡ raised s.ins (one_if (is_ok result && is_some from))
  pub free : (frame_at t.frames frame).owner ≡ None
  pub placed : places t ≡ places s
  pub slot : OnErr result (is_some from ≡ true)
  pub visits : (page : PageRef) (pinned : Option ℕ) → Visits page pinned s t
  pub failures : CountsFailure (is_ok result) s t

-- The slot of the page in a dirty frame. If it had none, it got the lowest free slot of the first area that has one.
pub record FindsSlot (frame : ℕ) (s t : StoreView) (slot : Slot) : Type 0 where
  pub is : IsSlotOf (frame_at s.frames frame).owner t.segs slot
  pub rest : t ≡ record s { segs = t.segs; swap = t.swap }
  pub still : Still s t
  pub away : StaysAway s t
  pub goes : Goes s t
  pub failures : total t.swap ≡ total s.swap
  pub placed : places t ≡ slotted frame (places s)
  pub sound : IsStoreSound t

-- a dirty frame was written to its page's slot; if that failed it is still dirty
pub record WritesBack {A E : Type 0} (frame : ℕ) (s t : StoreView) (result : Result A E) : Type 0 where
  pub frames : t.frames ≡ marked s.frames frame (not (is_ok result))
  pub rest : t ≡ record s { frames = t.frames; swap = t.swap; outs = t.outs }
  pub outs : t.outs ≡ raised s.outs (one_if (is_ok result))
  pub goes : Goes s t
  pub failures : CountsFailure (is_ok result) s t
  pub placed : places t ≡ with_bit frame (not (is_ok result)) (places s)
  pub sound : IsStoreSound t

-- a dirty frame was written to a slot for its page; if that failed it is still dirty
pub record PagesOut {A E : Type 0} (frame : ℕ) (s t : StoreView) (result : Result A E) : Type 0 where
  pub frames : t.frames ≡ marked s.frames frame (not (is_ok result))
  pub rest : OnlyWrites s t
  pub outs : t.outs ≡ raised s.outs (one_if (is_ok result))
  pub still : Still s t
  pub away : StaysAway s t
  pub goes : Goes s t
  pub failures : CountsFailure (is_ok result) s t
  pub placed : places t ≡ after_page_out frame (is_ok result) (places s)
  pub sound : IsStoreSound t

-- a frame was written if it was dirty, or that write failed
pub record Cleans {E : Type 0} (frame : ℕ) (s t : StoreView) (result : Result Bool E) : Type 0 where
  pub ok : OnOk result (t.frames ≡ marked s.frames frame false)
  pub err : OnErr result (t.frames ≡ s.frames)
  pub written : IfOk result (λ w. w ≡ (frame_at s.frames frame).dirty)
  pub rest : OnlyWrites s t
  pub outs : t.outs ≡ raised s.outs (one_if (is_ok result && (frame_at s.frames frame).dirty))
  pub placed : OnOk result (places t ≡ after_clean frame (places s))
  pub stopped : OnErr result (places t ≡ after_page_out frame false (places s))
  pub dirty : OnErr result ((frame_at s.frames frame).dirty ≡ true)
  pub still : Still s t
  pub away : StaysAway s t
  pub goes : Goes s t
  pub failures : CountsFailure (is_ok result) s t

-- the victim's page left its frame, or its write failed
pub record Evicts
    {E : Type 0} (pinned : Option ℕ) (s t : StoreView) (result : Result Evicted E) : Type 0 where
  pub visits : (r : PageRef) → Visits r pinned s t
  pub gone : IfOk result (λ e. OnlyMoves e.page None s t)
  pub free : IfOk result (λ e. IsFreeFrame t.frames e.frame)
  pub err : OnErr result (Still s t)
  pub ins : t.ins ≡ s.ins
  pub outs : MatchResult result (λ e. t.outs ≡ raised s.outs (one_if e.written)) (λ _. t.outs ≡ s.outs)
  pub placed : OnOk result (places t ≡ after_eviction pinned (places s))
  pub chosen : IfOk result (λ e. e.frame ≡ victim_in pinned (places s))
  pub written :
      IfOk result (λ e. e.written ≡ (frame_at (places s).frames (victim_in pinned (places s))).dirty)
  pub stopped : OnErr result (StopsAtWrite pinned (places s) (places t))
  pub failures : CountsFailure (is_ok result) s t

-- a frame is free now, or the write of the victim's page failed
pub record MakesRoom
    {E : Type 0} (pinned : Option ℕ) (s t : StoreView) (u v : Touched) (result : Result ℕ E) : Type 0 where
  pub free : IfOk result (IsFreeFrame t.frames)
  pub visits : (page : PageRef) → Visits page pinned s t
  pub moves : MovesOn u.moved.items v.moved.items s t
  pub few : length v.moved.items ≤ length u.moved.items + 1
  pub ins : v.ins ≡ u.ins
  pub outs : v.outs ≤ u.outs + 1
  pub counts : CountsOn u v s t
  pub placed : OnOk result (places t ≡ after_room pinned (places s))
  pub chosen : IfOk result (λ f. f ≡ frame_for pinned (places s))
  pub transfers : OnOk result (counted v ≡ room_counted pinned (places s) (counted u))
  pub uncounted : OnErr result (counted v ≡ counted u)
  pub stopped : OnErr result (StopsAtWrite pinned (places s) (places t))
  pub failures : CountsFailure (is_ok result) s t

-- a page came into a free frame, or its read failed
pub record ComesIn
    {A E : Type 0} (frame : ℕ) (page : PageRef) (s t : StoreView) (u v : Touched)
    (result : Result A E) : Type 0 where
  pub here : OnOk result (frame_by t page ≡ Some frame)
  pub bit : OnOk result (referenced_at t frame ≡ true)
  pub visits : (pinned : Option ℕ) → Visits page pinned s t
  pub moves : MovesOn u.moved.items v.moved.items s t
  pub few : length v.moved.items ≤ length u.moved.items + 1
  pub ins : v.ins ≡ u.ins + one_if (is_ok result && is_some (rec_by s.segs page).slot)
  pub outs : v.outs ≡ u.outs
  pub counts : CountsOn u v s t
  pub placed : OnOk result (places t ≡ settled page frame (places s))
  pub stopped : OnErr result (places t ≡ places s)
  pub slot : OnErr result (is_some (rec_by s.segs page).slot ≡ true)
  pub failures : CountsFailure (is_ok result) s t
