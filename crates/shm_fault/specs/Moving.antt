-- Moving a page out of its slot.
use Rattle.std.specs.Prelude.{ℕ, ◌≡◌, ◌+◌, ◌≤◌, true, [], None, Result, IfErr, OnOk, OnErr, is_ok, length, set}
use Rattle.shm_base.specs.declared.paging.Slot.{Slot}
use Rattle.shm_slots.specs.View.{SwapView, area_at, owner_of, sizes, swap_slots}
use Rattle.shm_slots.specs.Cause.{GoesOn, had_cause}
use Rattle.shm_fault.specs.Held.{pages_in_store}
use Rattle.shm_fault.specs.Store.{StoreView, Still, held}
use Rattle.shm_fault.specs.Placing.{places, after_move, after_moves, without_area, StopsAtMove, StopsMoving}
use Rattle.shm_fault.specs.declared.touched.PagerFailed.{PagerFailed}
use Rattle.shm_fault.specs.Counting.{IsUncounted}
use Rattle.shm_fault.specs.Goes.{CountsFailure, Goes}
use Rattle.shm_fault.specs.Sound.{IsStoreSound}
use Rattle.shm_fault.specs.Steps.{LockedPagesStay}

-- the other areas have a slot for each page of each segment
abbrev pub FitOutside : StoreView → ℕ → Type 0
FitOutside s area = pages_in_store (held s) + length (area_at s.swap area).pages ≤ swap_slots s.swap

-- the slot is free, and the free slots of its area are still free
pub record IsCleared (k : Slot) (before after : SwapView) : Type 0 where
  pub free : owner_of after k.area k.slot ≡ None
  pub rest : (slot : ℕ) → owner_of before k.area slot ≡ None → owner_of after k.area slot ≡ None

-- the slot was made free, by a move of its page; if a pager failed, the page stays
pub record Clears {A E : Type 0} (k : Slot) (s t : StoreView) (result : Result A E) : Type 0 where
  pub goes : Goes s t
  pub still : Still s t
  pub cleared : OnOk result (IsCleared k s.swap t.swap)
  pub rest : IsUncounted s t
  pub placed : OnOk result (places t ≡ after_move k (places s))
  pub stopped : OnErr result (StopsAtMove k (places s) (places t))
  pub failures : CountsFailure (is_ok result) s t
  pub sound : IsStoreSound t

-- The area is turned off after its pages have moved, in order of their slots. If a pager failed the area stays, with the pages
-- that had not moved yet. No byte of a segment changes, and no page enters or leaves a frame.
pub record MovesOff {A : Type 0} (area : ℕ) (s t : StoreView) (result : Result A PagerFailed) : Type 0 where
  pub held : held t ≡ held s
  pub gone : OnOk result (sizes t.swap ≡ set (sizes s.swap) area None)
  pub kept_sizes : OnErr result (sizes t.swap ≡ sizes s.swap)
  pub count : length t.frames ≡ length s.frames
  pub cause : OnErr result (had_cause s.swap t.swap ≡ true)
  pub failures : CountsFailure (is_ok result) s t
  pub moved : IfErr result (λ e. e.touched.moved.items ≡ [])
  pub rest : IsUncounted s t
  pub moves : OnOk result
      (places t ≡ without_area area (after_moves area (length (area_at s.swap area).pages) (places s)))
  pub stopped : OnErr result (StopsMoving area (places s) (places t))
  pub still : Still s t
  pub kept : LockedPagesStay s t
  pub counts : GoesOn s.swap t.swap
  pub sound : IsStoreSound t
