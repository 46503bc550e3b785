-- Each slot's owner, by area, and the move of a page from its slot to another area.
use Rattle.std.specs.Prelude.{ℕ, ◌≡◌, ◌≢◌, ◌+◌, ◌<◌, List, [], map, set, get_or, length, Option, Some, None, Result, IfOk, OnErr, is_ok}
use Rattle.shm_base.specs.declared.paging.PageRef.{PageRef}
use Rattle.shm_base.specs.declared.paging.Slot.{Slot}
use Rattle.shm_pager_core.specs.declared.pager.PagerFault.{PagerFault}
use Rattle.shm_slots.specs.View.{AreaView, SwapView, HasSlot, IsFirstFree, IsSwap, area_at, owner_of, page_in, sizes, swap_slots, used_in, used_slots}
use Rattle.shm_slots.specs.Cause.{Counts, GoesOn}

abbrev pub area_owners : AreaView → List (Option PageRef)
area_owners a = a.owners

-- each slot's page, by area
unfoldable pub slot_owners : SwapView → List (List (Option PageRef))
slot_owners swap = map area_owners swap.areas

-- the slots with this owner for one of them
abbrev pub own_slot : List (List (Option PageRef)) → Slot → Option PageRef → List (List (Option PageRef))
own_slot slots k owner = set slots k.area (set (get_or slots k.area []) k.slot owner)

-- some other area has a free slot for a page of this one
abbrev pub HasFreeOutside : SwapView → ℕ → Type 0
HasFreeOutside swap area =
    used_slots swap + length (area_at swap area).pages < swap_slots swap + used_in (area_at swap area)

-- all slots have the same owners, and those that are owned hold the same pages
pub record SameOwned (before after : SwapView) : Type 0 where
  pub has : (k : Slot) → HasSlot before k.area k.slot → HasSlot after k.area k.slot
  pub owners : (k : Slot) → owner_of after k.area k.slot ≡ owner_of before k.area k.slot
  pub pages : (k : Slot) (q : PageRef) → owner_of before k.area k.slot ≡ Some q
      → page_in after k.area k.slot ≡ page_in before k.area k.slot

-- a page has the first free slot of the other areas, with the bytes that its old slot held; the old slot is free
pub record IsRelocated (page : PageRef) (from to : Slot) (before after : SwapView) : Type 0 where
  pub first : IsFirstFree before (Some from.area) to
  pub has : (k : Slot) → HasSlot before k.area k.slot → HasSlot after k.area k.slot
  pub owner : owner_of after to.area to.slot ≡ Some page
  pub bytes : page_in after to.area to.slot ≡ page_in before from.area from.slot
  pub gone : owner_of after from.area from.slot ≡ None
  pub owners : (k : Slot) → k ≢ from → k ≢ to → owner_of after k.area k.slot ≡ owner_of before k.area k.slot
  pub pages : (k : Slot) → k ≢ from → k ≢ to → page_in after k.area k.slot ≡ page_in before k.area k.slot

-- the effects of moving a page from its slot to another area; if a pager failed, all slots are unchanged
pub record Relocates
    (page : PageRef) (from : Slot) (before after : SwapView) (result : Result Slot PagerFault) : Type 0 where
  pub ok : IfOk result (λ to. IsRelocated page from to before after)
  pub owners : IfOk result (λ to.
      slot_owners after ≡ own_slot (own_slot (slot_owners before) to (Some page)) from None)
  pub err : OnErr result (SameOwned before after)
  pub same : OnErr result (slot_owners after ≡ slot_owners before)
  pub failures : Counts (is_ok result) before after
  pub goes_on : GoesOn before after
  pub same_sizes : sizes after ≡ sizes before
  pub sound : IsSwap after
