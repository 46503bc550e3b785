-- Reads of a page's slot are made to fail.
use Rattle.std.specs.Prelude.{◌≡◌, ◌⊎◌, true, false, Option, Some, None, is_some, Result, MatchResult}
use Rattle.shm_base.specs.declared.paging.Slot.{Slot}
use Rattle.shm_pager_core.specs.declared.failing.FailRefused.{FailRefused}
use Rattle.shm_pager_core.specs.declared.failing.FailRefused.TheVariants.{NotThere, HostMemory}
use Rattle.shm_slots.specs.Failing.{with_bad}
use Rattle.shm_slots.specs.View.{SwapView, area_at, with_area}

-- reads of the slot fail, so no number bounds the failures of its area any more
abbrev pub slot_failed : Option Slot → SwapView → SwapView
slot_failed None s = s
slot_failed (Some k) s = with_area s k.area (with_bad k.slot (area_at s k.area))

-- refused exactly if the page is in no slot, or if the host refused memory
abbrev pub IsRefusedSlot : {A : Type 0} → Option Slot → Result A FailRefused → Type 0
IsRefusedSlot slot result =
    MatchResult result (λ _. is_some slot ≡ true) (λ e. ((e ≡ NotThere) × (is_some slot ≡ false)) ⊎ ((e ≡ HostMemory) × (is_some slot ≡ true)))
