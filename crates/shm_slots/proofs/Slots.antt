-- What calls of the swap leave of its slots.
-- an element of a list of which one was set: that one, or as it was
use Rattle.std.proofs.Common.{Bool, List, Option, ℕ, None, ap, arith, get_or, get_or-set_other, get_or-set_same, inl, inr, length, length-set, refl, set, suc, zero, ◌<◌, ◌∙◌, ◌∷◌, ◌≡◌, ◌≢◌, ◌⊎◌, []}
use Rattle.std.proofs.lemmas.Bool.Decides.{nat_tests}
use Rattle.std.proofs.lemmas.Grind.{common_steps}
use Rattle.shm_base.specs.declared.paging.PageRef.{PageRef}
use Rattle.shm_base.specs.declared.paging.Slot.{Slot}
use Rattle.shm_pager_core.specs.Pages.{SideCalls}
use Rattle.shm_slots.specs.View.{AreaView, AfterWriteFault, HasSlot, OneArea, SwapView, area_at, owner_of, page_in, with_calls, with_owner, with_page, with_slot_owner, with_slot_page, without_slot}

pub set-cases : {A : Type 0} (xs : List A) (i : ℕ) (x d : A) (j : ℕ) → ((j ≡ i) × (get_or (set xs i x) j d ≡ x)) ⊎ (get_or (set xs i x) j d ≡ get_or xs j d)
set-cases [] i x d j = inr refl
set-cases (y ∷ xs) zero x d zero = inl (refl, refl)
set-cases (y ∷ xs) zero x d (suc j) = inr refl
set-cases (y ∷ xs) (suc i) x d zero = inr refl
set-cases (y ∷ xs) (suc i) x d (suc j) = elim (set-cases xs i x d j) [ inl same ↦ inl (ap suc same.0, same.1) | inr kept ↦ inr kept ]

-- one slot may have another page and another owner; nothing else changed
pub record OnlySlot (k : Slot) (s t : SwapView) : Type 0 where
  pub has : (j : Slot) → HasSlot s j.area j.slot → HasSlot t j.area j.slot
  pub pages : (j : Slot) → j ≢ k → page_in t j.area j.slot ≡ page_in s j.area j.slot
  pub owners : (j : Slot) → j ≢ k → owner_of t j.area j.slot ≡ owner_of s j.area j.slot

pub OnlySlot-trans : (k : Slot) (s t u : SwapView) → OnlySlot k s t → OnlySlot k t u → OnlySlot k s u
OnlySlot-trans k s t u a b = record {
  has = λ j h. b.has j (a.has j h);
  pages = λ j n. b.pages j n ∙ a.pages j n;
  owners = λ j n. b.owners j n ∙ a.owners j n;
}

-- the area of one slot was set: only that slot's page and owner changed
area_only : (k : Slot) (s : SwapView) (a : AreaView) (flag : Bool) → length a.pages ≡ length (area_at s k.area).pages
    → ((i : ℕ) → i ≢ k.slot → get_or a.pages i [] ≡ get_or (area_at s k.area).pages i [])
    → ((i : ℕ) → i ≢ k.slot → get_or a.owners i None ≡ get_or (area_at s k.area).owners i None)
    → OnlySlot k s (record { areas = set s.areas k.area a; never_spent = flag })
area_only k s a flag len pages owners = grind (arith, nat_tests, common_steps, s.areas, k.area, set-cases, k.slot)

-- a slot written
pub OnlySlot-page : (k : Slot) (s : SwapView) (page : List ℕ) (calls : List SideCalls) → OnlySlot k s (with_slot_page s k page calls)
OnlySlot-page k s page calls = area_only k s (with_calls (with_page (area_at s k.area) k.slot page) calls) s.never_spent (length-set (area_at s k.area).pages k.slot page) (λ i n. get_or-set_other (area_at s k.area).pages k.slot i page [] n) (λ i n. refl)

-- a slot's owner set
pub OnlySlot-owner : (k : Slot) (s : SwapView) (owner : Option PageRef) → OnlySlot k s (with_slot_owner s k owner)
OnlySlot-owner k s owner = area_only k s (with_owner (area_at s k.area) k.slot owner) s.never_spent refl (λ i n. refl) (λ i n. get_or-set_other (area_at s k.area).owners k.slot i owner None n)

-- a slot given back
pub OnlySlot-given : (k : Slot) (s : SwapView) (page : List ℕ) → OnlySlot k s (without_slot s k page)
OnlySlot-given k s page = area_only k s (with_page (with_owner (area_at s k.area) k.slot None) k.slot page) s.never_spent (length-set (area_at s k.area).pages k.slot page) (λ i n. get_or-set_other (area_at s k.area).pages k.slot i page [] n) (λ i n. get_or-set_other (area_at s k.area).owners k.slot i None None n)

-- a write that failed
pub OnlySlot-fault : (k : Slot) (s t : SwapView) → OneArea k.area s t → AfterWriteFault k.slot (area_at s k.area) (area_at t k.area) → OnlySlot k s t
OnlySlot-fault k s t one fault = grind (arith, nat_tests, common_steps, k.area, k.slot, fault.1, fault.0, area_only, get_or-set_other)

-- what the slot itself then is
pub page-written : (k : Slot) (s : SwapView) (page : List ℕ) (calls : List SideCalls) → HasSlot s k.area k.slot → page_in (with_slot_page s k page calls) k.area k.slot ≡ page
page-written k s page calls h = grind (arith, nat_tests, common_steps, get_or-set_same, s.areas, k.area, k.slot, h.0, h.1)

pub owner-written : (k : Slot) (s : SwapView) (page : List ℕ) (calls : List SideCalls) → HasSlot s k.area k.slot → owner_of (with_slot_page s k page calls) k.area k.slot ≡ owner_of s k.area k.slot
owner-written k s page calls h = grind (arith, nat_tests, common_steps, get_or-set_same, s.areas, k.area, k.slot, h.0)

pub owner-fault : (k : Slot) (s t : SwapView) → OneArea k.area s t → AfterWriteFault k.slot (area_at s k.area) (area_at t k.area) → owner_of t k.area k.slot ≡ owner_of s k.area k.slot
owner-fault k s t one fault = ap (λ (b : AreaView). get_or b.owners k.slot None) fault.0

pub owner-set : (k : Slot) (s : SwapView) (owner : Option PageRef) → k.area < length s.areas → k.slot < length (area_at s k.area).owners → owner_of (with_slot_owner s k owner) k.area k.slot ≡ owner
owner-set k s owner area slot = grind (arith, nat_tests, common_steps, get_or-set_same, s.areas, k.area, k.slot)

pub owner-given : (k : Slot) (s : SwapView) (page : List ℕ) → k.area < length s.areas → k.slot < length (area_at s k.area).owners → owner_of (without_slot s k page) k.area k.slot ≡ None
owner-given k s page area slot = grind (arith, nat_tests, common_steps, get_or-set_same, s.areas, k.area, k.slot)

pub cases_slot : (j k : Slot) → (j ≡ k) ⊎ (j ≢ k)
cases_slot j k = grind (arith, nat_tests, common_steps, j.area, k.area, j.slot, k.slot)
