-- What contracts see of swap areas, and the changes that calls make.
use Rattle.std.specs.Prelude.{ℕ, ◌≡◌, ◌≢◌, ◌<◌, ◌≤◌, ◌+◌, ◌-◌, ◌*◌, ◌⊎◌, ◌==◌, ◌&&◌, nat_lt, Bool, true, false, not, if◌then◌else◌, List, [], ◌∷◌, ◌++◌, Option, Some, None, set, get_or, map, replicate, length, is_some, sum_by, All, MatchOption}
use Rattle.std.specs.List.{list_all, list_any}
use Rattle.shm_base.specs.declared.paging.PageRef.{PageRef}
use Rattle.shm_base.specs.declared.paging.Slot.{Slot}
pub use Rattle.shm_base.specs.Segments.{slots_in}
use Rattle.shm_base.specs.Segments.{slots}
use Rattle.shm_pager_core.specs.Pages.{PagerView, SideCalls, SlotUnknown, last_count}
use Rattle.shm_slots.specs.Owners.{used_count}
use Rattle.shm_base.specs.declared.bounds.TheConstants.{MOST_AREAS, MOST_SLOTS}

-- a swap area: whether it is active, the page and the owner of each slot, its pager's count of failures at the start and now, the
-- most that the pager will ever count, and the calls of each of its sides: how many there were, and which ones fail
pub record AreaView : Type 0 where
  pub here : Bool
  pub pages : List (List ℕ)
  pub owners : List (Option PageRef)
  pub start : ℕ
  pub failed : ℕ
  pub most : ℕ
  pub calls : List SideCalls

-- the pages of a pager; none once it is gone
abbrev pub content_of : {P : Type 0} → (P → List (List ℕ)) → Option P → List (List ℕ)
content_of content None = []
content_of content (Some p) = content p

-- one of the pager's counts; the last known one once it is gone
abbrev pub count_of : {P : Type 0} → (P → ℕ) → ℕ → Option P → ℕ
count_of failed last None = last
count_of failed last (Some p) = failed p

-- the calls of its sides; none once it is gone
abbrev pub calls_of : {P : Type 0} → (P → List SideCalls) → Option P → List SideCalls
calls_of calls None = []
calls_of calls (Some p) = calls p

-- the value beyond the last area
abbrev pub no_area : AreaView
no_area = record { here = false; pages = []; owners = []; start = 0; failed = 0; most = 0; calls = [] }

-- how much the area's count has risen
abbrev pub rise : AreaView → ℕ
rise a = a.failed - a.start

-- how much the count of an area may have risen in the end
abbrev pub most_rise : AreaView → ℕ
most_rise a = a.most - a.start

-- the area's count is at its last value
abbrev pub is_spent : AreaView → Bool
is_spent a = a.failed == last_count

-- the area is active, and its count is at its last value
abbrev pub is_spent_here : AreaView → Bool
is_spent_here a = is_spent a && a.here

-- one more failure; none if the area was spent, and then nothing changed
abbrev pub CountedFault : AreaView → AreaView → Type 0
CountedFault before after = (after.failed ≡ before.failed + 1) ⊎ ((before.failed ≡ last_count) × (after ≡ before))

-- the area after calls of its sides
abbrev pub with_calls : AreaView → List SideCalls → AreaView
with_calls a calls = record a { calls = calls }

-- a read that failed changes at most the count, the bound on it and the calls
abbrev pub AfterReadFault : AreaView → AreaView → Type 0
AfterReadFault before after =
    (after ≡ record before { failed = after.failed; most = after.most; calls = after.calls }) × CountedFault before after

-- a write that failed may change the slot's page, the count, the bound on it and the calls
abbrev pub AfterWriteFault : ℕ → AreaView → AreaView → Type 0
AfterWriteFault slot before after =
    (after ≡ record before { pages = after.pages; failed = after.failed; most = after.most; calls = after.calls }) × SlotUnknown slot before.pages after.pages × CountedFault before after

-- the area with this page in one slot
abbrev pub with_page : AreaView → ℕ → List ℕ → AreaView
with_page a slot page = record a { pages = set a.pages slot page }

-- the area with this owner of one slot
abbrev pub with_owner : AreaView → ℕ → Option PageRef → AreaView
with_owner a slot owner = record a { owners = set a.owners slot owner }

-- the area after its pager is gone, which counts no more failures
abbrev pub off : AreaView → AreaView
off a = record { here = false; pages = []; owners = []; start = a.start; failed = a.failed; most = a.failed; calls = [] }

-- an area when its pager is passed in
abbrev pub fresh : PagerView → AreaView
fresh p = record { here = true; pages = p.pages; owners = replicate (length p.pages) None; start = p.failed; failed = p.failed; most = p.most; calls = p.calls }

-- the areas, and whether none of them was ever spent
pub record SwapView : Type 0 where
  pub areas : List AreaView
  pub never_spent : Bool

-- the areas when their pagers are passed in
abbrev pub new_swap : List AreaView → SwapView
new_swap areas = record { areas = areas; never_spent = not (list_any is_spent areas) }

-- one more area, whose number is the next one
abbrev pub with_new : SwapView → AreaView → SwapView
with_new s a = record { areas = s.areas ++ a ∷ []; never_spent = s.never_spent && not (is_spent a) }

abbrev pub area_at : SwapView → ℕ → AreaView
area_at s i = get_or s.areas i no_area

abbrev pub with_area : SwapView → ℕ → AreaView → SwapView
with_area s i a = record s { areas = set s.areas i a }

-- the slot exists
abbrev pub HasSlot : SwapView → ℕ → ℕ → Type 0
HasSlot s area slot = (area < length s.areas) × (slot < length (area_at s area).pages)

-- who owns a slot
abbrev pub owner_of : SwapView → ℕ → ℕ → Option PageRef
owner_of s area slot = get_or (area_at s area).owners slot None

-- the page in a slot
abbrev pub page_in : SwapView → ℕ → ℕ → List ℕ
page_in s area slot = get_or (area_at s area).pages slot []

-- one slot has this owner
abbrev pub with_slot_owner : SwapView → Slot → Option PageRef → SwapView
with_slot_owner s k owner = with_area s k.area (with_owner (area_at s k.area) k.slot owner)

-- one slot has this page, and its area made this call
abbrev pub with_slot_page : SwapView → Slot → List ℕ → List SideCalls → SwapView
with_slot_page s k page calls = with_area s k.area (with_calls (with_page (area_at s k.area) k.slot page) calls)

-- an area made a call, which changed nothing but the calls
abbrev pub with_calls_at : SwapView → ℕ → List SideCalls → SwapView
with_calls_at s area calls = with_area s area (with_calls (area_at s area) calls)

-- one slot is free, and holds an arbitrary page
abbrev pub without_slot : SwapView → Slot → List ℕ → SwapView
without_slot s k page = with_area s k.area (with_page (with_owner (area_at s k.area) k.slot None) k.slot page)

-- every slot of the areas below i is owned; one area may be left out
abbrev pub AllOwned : SwapView → Option ℕ → ℕ → Type 0
AllOwned s left_out i =
    (area : ℕ) → area < i → left_out ≢ Some area → (slot : ℕ) → slot < length (area_at s area).owners → is_some (owner_of s area slot) ≡ true

-- the slot is the least free one of the first area with a free slot; one area may be left out
pub record IsFirstFree (s : SwapView) (left_out : Option ℕ) (k : Slot) : Type 0 where
  pub there : HasSlot s k.area k.slot
  pub outside : left_out ≢ Some k.area
  pub free : owner_of s k.area k.slot ≡ None
  pub lowest : AllOwned s left_out k.area
  pub least : (slot : ℕ) → slot < k.slot → is_some (owner_of s k.area slot) ≡ true

-- the result of a search for a free slot: the first one, or none if all are owned
abbrev pub FoundFree : SwapView → Option ℕ → Option Slot → Type 0
FoundFree s left_out found = MatchOption found (AllOwned s left_out (length s.areas)) (IsFirstFree s left_out)

-- the slot that was found has this owner now
abbrev pub Takes : PageRef → SwapView → Option Slot → SwapView → Type 0
Takes owner before found after =
    MatchOption found (after ≡ before) (λ k. after ≡ with_slot_owner before k (Some owner))

-- one area changed, and `never_spent` is false if it is spent now
abbrev pub OneArea : ℕ → SwapView → SwapView → Type 0
OneArea area before after =
    after ≡ record { areas = set before.areas area (area_at after area); never_spent = before.never_spent && not (is_spent (area_at after area)) }

-- the slots, their pages and their owners are unchanged
pub record SameSlots (before after : SwapView) : Type 0 where
  pub areas : length after.areas ≡ length before.areas
  pub pages : (area : ℕ) → (area_at after area).pages ≡ (area_at before area).pages
  pub owners : (area : ℕ) → (area_at after area).owners ≡ (area_at before area).owners

-- an area's number of slots; none once it is gone
abbrev pub size_of : AreaView → Option ℕ
size_of a = if a.here then Some (length a.pages) else None

abbrev pub sizes : SwapView → List (Option ℕ)
sizes s = map size_of s.areas

-- the slots of all active areas
abbrev pub swap_slots : SwapView → ℕ
swap_slots s = slots (sizes s)

-- how many slots of an area are owned
abbrev pub used_in : AreaView → ℕ
used_in a = used_count a.owners

-- how many slots are owned
abbrev pub used_slots : SwapView → ℕ
used_slots s = sum_by used_in s.areas

-- some area, active or gone, has its count at the last value
abbrev pub was_spent : SwapView → Bool
was_spent s = list_any is_spent s.areas

-- a number below the last count bounds the area's count
abbrev pub is_finite : AreaView → Bool
is_finite a = nat_lt a.most last_count

-- and so it is for each area
abbrev pub are_finite : SwapView → Bool
are_finite s = list_all is_finite s.areas

-- some pager of this type has this count
abbrev pub IsCountOf : {P : Type 0} → (P → ℕ) → ℕ → Type 0
IsCountOf {P = P} failed n = (p : P) × (failed p ≡ n)

-- the area's first and present counts are counts of pagers of this type
pub record IsCounted {P : Type 0} (failed : P → ℕ) (a : AreaView) : Type 0 where
  pub start : IsCountOf failed a.start
  pub now : IsCountOf failed a.failed

-- every area's counts are counts of pagers of this type
abbrev pub AreCountsOf : {P : Type 0} → (P → ℕ) → SwapView → Type 0
AreCountsOf failed s = All (IsCounted failed) s.areas

-- the most slots of all areas
abbrev pub most_swap_slots : ℕ
most_swap_slots = MOST_AREAS * MOST_SLOTS

-- the numbers of slots that an area may have
abbrev pub IsAreaSize : ℕ → Type 0
IsAreaSize n = (1 ≤ n) × (n ≤ MOST_SLOTS)

-- the invariant of every area
pub record IsArea (a : AreaView) : Type 0 where
  pub small : length a.pages ≤ MOST_SLOTS
  pub owned : length a.owners ≡ length a.pages
  pub gone : a.here ≡ false → a.pages ≡ []
  pub begun : a.start ≤ a.failed
  pub countable : a.failed ≤ last_count
  pub bounded : a.failed ≤ a.most

-- the invariant of every swap; it was never spent exactly when no area's count is at its last value
pub record IsSwap (s : SwapView) : Type 0 where
  pub few : length s.areas ≤ MOST_AREAS
  pub each : (area : ℕ) → IsArea (area_at s area)
  pub unspent : s.never_spent ≡ not (was_spent s)
