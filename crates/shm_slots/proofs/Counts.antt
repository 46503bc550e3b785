-- Counting slots: if all are owned, as many are used as there are.
use Rattle.std.proofs.Common.{rules, ◌≡◌, ◌≢◌, ℕ, zero, suc, ◌+◌, ◌<◌, List, [], ◌∷◌, length, get_or, map, Option, Some, None, refl, sym, ◌∙◌, arith, sum_by}
use Rattle.std.specs.Prelude.{IfNone}
use Rattle.std.proofs.lemmas.Grind.{common_steps}
use Rattle.std.proofs.lemmas.List.Sums.{sum_by-cons}
use Rattle.shm_base.specs.declared.paging.PageRef.{PageRef}
use Rattle.shm_base.specs.declared.paging.Slot.{Slot}
use Rattle.shm_slots.specs.Owners.{UsedBelow, IsLeastFree}
use Rattle.shm_slots.specs.View.{AreaView, SwapView, area_at, no_area, size_of, slots_in, swap_slots, used_in, used_slots, FoundFree, Takes, IsFirstFree, IsArea, IsSwap}
use Rattle.shm_slots.proofs.Least.{count-full}

slots_in-size_of : (a : AreaView) → IsArea a → slots_in (size_of a) ≡ length a.pages
slots_in-size_of a area = grind (arith, common_steps)

used_in-full : (a : AreaView) → IsArea a → UsedBelow (length a.owners) a.owners → used_in a ≡ slots_in (size_of a)
used_in-full a area used = count-full a.owners used ∙ area.owned ∙ sym (slots_in-size_of a area)

-- all areas full
used-full : (xs : List AreaView) → ((k : ℕ) → IsArea (get_or xs k no_area))
    → ((k : ℕ) → k < length xs → UsedBelow (length (get_or xs k no_area).owners) (get_or xs k no_area).owners)
    → sum_by used_in xs ≡ sum_by slots_in (map size_of xs)
used-full [] each used = refl
used-full (x ∷ xs) each used =
    let first = used_in-full x (each 0) (used 0 (omega arith)) in
    let rest = used-full xs (λ k. each (suc k)) (λ k l. used (suc k) (omega arith)) in
    omega (arith, first, rest, sum_by-cons used_in x xs, sum_by-cons slots_in (size_of x) (map size_of xs))

-- all areas but one are full
used-full_but : (xs : List AreaView) (out : ℕ) → ((k : ℕ) → IsArea (get_or xs k no_area))
    → ((k : ℕ) → k < length xs → k ≢ out → UsedBelow (length (get_or xs k no_area).owners) (get_or xs k no_area).owners)
    → sum_by used_in xs + length (get_or xs out no_area).pages ≡ sum_by slots_in (map size_of xs) + used_in (get_or xs out no_area)
used-full_but [] out each used = refl
used-full_but (x ∷ xs) zero each used =
    let first = slots_in-size_of x (each 0) in
    let rest = used-full xs (λ k. each (suc k)) (λ k l. used (suc k) (omega arith) (omega arith)) in
    omega (arith, first, rest, sum_by-cons used_in x xs, sum_by-cons slots_in (size_of x) (map size_of xs))
used-full_but (x ∷ xs) (suc out) each used =
    let first = used_in-full x (each 0) (used 0 (omega arith) (omega arith)) in
    let rest = used-full_but xs out (λ k. each (suc k)) (λ k l n. used (suc k) (omega arith) (omega arith)) in
    omega (arith, first, rest, sum_by-cons used_in x xs, sum_by-cons slots_in (size_of x) (map size_of xs))

-- if no slot was found, as many are used as there are
pub used_slots-full : (found : Option Slot) (owner : PageRef) (s t : SwapView) → FoundFree s None found → Takes owner s found t → IsSwap t → IfNone found (used_slots s ≡ swap_slots s)
used_slots-full None owner s t all same swap = used-full s.areas (rw same at swap).each (λ k l. all k l (λ e. cc))
used_slots-full (Some k) owner s t found taken swap = search rules

-- if no slot was found outside an area, as many are used outside it as there are
pub used_slots-full_but : (found : Option Slot) (owner : PageRef) (s t : SwapView) (out : ℕ) → FoundFree s (Some out) found → Takes owner s found t → IsSwap t
    → IfNone found (used_slots s + length (area_at s out).pages ≡ swap_slots s + used_in (area_at s out))
used_slots-full_but None owner s t out all same swap = used-full_but s.areas out (rw same at swap).each (λ k l n. all k l (λ e. n (cc)))
used_slots-full_but (Some k) owner s t out found taken swap = search rules

-- the first free slot is the least free one of its area
pub IsLeastFree-first : (s t : SwapView) (out : Option ℕ) (k : Slot) (was : AreaView) → s ≡ t → was ≡ get_or s.areas k.area was → IsSwap s → IsFirstFree t out k → IsLeastFree was.owners k.slot
IsLeastFree-first s t out k was same found swap first = grind (arith, common_steps)
