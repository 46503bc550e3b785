-- A swap with one area changed.
use Rattle.std.proofs.Common.{◌≡◌, ℕ, zero, suc, ◌<◌, ◌≤◌, Bool, true, false, not, ◌&&◌, ◌||◌, List, [], ◌∷◌, ◌++◌, Option, None, length, get_or, set, map, sum_by, refl, sym, ap, ◌∙◌, inl, inr, arith, get_or-set_same, length-append}
use Rattle.std.specs.Prelude.{Result, Ok, Err, is_ok, IfOk, IfErr, OnErr}
use Rattle.std.specs.List.{list_any}
use Rattle.std.proofs.lemmas.Result.{IfErr-weaker}
use Rattle.std.proofs.lemmas.List.{set_past, get_or_default, get_or_read, map-set}
use Rattle.std.proofs.lemmas.Grind.{common_steps}
use Rattle.shm_base.specs.declared.paging.PageRef.{PageRef}
use Rattle.shm_pager_core.specs.Pages.{SideCalls}
use Rattle.shm_base.specs.declared.bounds.TheConstants.{MOST_AREAS}
use Rattle.shm_slots.specs.View.{AreaView, SwapView, area_at, no_area, is_spent, size_of, sizes, with_area, with_calls, with_calls_at, with_new, with_page, with_owner, off, HasSlot, CountedFault, IsArea, IsSwap, SameSlots}
use Rattle.shm_slots.specs.Cause.{some_spent, total, had_cause, Counts, GoesOn, IsSteady}

-- the areas with one of them changed
abbrev pub changed : SwapView → ℕ → AreaView → Bool → SwapView
changed s i a flag = record { areas = set s.areas i a; never_spent = flag }

-- the area's pager was called: the flag becomes false if the area is spent
abbrev pub asked_of : SwapView → ℕ → AreaView → SwapView
asked_of s i a = changed s i a (s.never_spent && not (is_spent a))

-- the area is there
pub area_within : (s t : SwapView) (i : ℕ) → s ≡ t → i < length t.areas → i < length s.areas
area_within s t i same within = rw same within

-- the area that a call found
pub area-found : (s t : SwapView) (i : ℕ) (was : AreaView) → s ≡ t → was ≡ get_or s.areas i was → i < length t.areas → was ≡ area_at t i
area-found s t i was same found within = get_or_read t.areas i was within (rw (← same) found) no_area

-- the area becomes what a function makes of it
pub area-set : (f : AreaView → AreaView) (s t : SwapView) (i : ℕ) (was a : AreaView) → s ≡ t → was ≡ get_or s.areas i was → i < length t.areas → a ≡ f was → changed s i a s.never_spent ≡ with_area t i (f (area_at t i))
area-set f s t i was a same found within is = rw (is, area-found s t i was same found within, same) refl

-- the area that was found has the slot
pub slot_within : (s t : SwapView) (i : ℕ) (was : AreaView) (slot : ℕ) → s ≡ t → was ≡ get_or s.areas i was → HasSlot t i slot → slot < length was.pages
slot_within s t i was slot same found there = rw (area-found s t i was same found there.0) there.1

-- one more area
pub areas-push : (xs : List AreaView) (a : AreaView) → ((k : ℕ) → IsArea (get_or xs k no_area)) → IsArea a → (k : ℕ) → IsArea (get_or (xs ++ a ∷ []) k no_area)
areas-push [] a each area k = grind (arith, common_steps, each)
areas-push (x ∷ xs) a each area zero = each 0
areas-push (x ∷ xs) a each area (suc k) = areas-push xs a (λ i. each (suc i)) area k

-- the flag with one more area
pub flag-push : (xs : List AreaView) (a : AreaView) → not (list_any is_spent (xs ++ a ∷ [])) ≡ (not (list_any is_spent xs) && not (is_spent a))
flag-push [] a = grind (arith, common_steps)
flag-push (x ∷ xs) a = grind (arith, common_steps, (flag-push xs a))

-- a swap as it is made
pub IsSwap-new : (xs : List AreaView) (flag : Bool) → length xs ≤ MOST_AREAS → ((k : ℕ) → IsArea (get_or xs k no_area)) → flag ≡ not (list_any is_spent xs) → IsSwap (record { areas = xs; never_spent = flag })
IsSwap-new xs flag few each is = grind (arith, common_steps)

-- a swap with one more area
pub IsSwap-more : (s : SwapView) (a : AreaView) → IsSwap s → IsArea a → length s.areas < MOST_AREAS → IsSwap (with_new s a)
IsSwap-more s a is area few =
    let size = length-append s.areas (a ∷ []) in
    IsSwap-new (s.areas ++ a ∷ []) (s.never_spent && not (is_spent a)) (omega (arith, size, few)) (areas-push s.areas a is.each area) (rw is.unspent (sym (flag-push s.areas a)))

-- a function of each area that is the same for the changed one
map-changed : {B : Type 0} (f : AreaView → B) (xs : List AreaView) (i : ℕ) (was a : AreaView) → was ≡ get_or xs i was → f a ≡ f was → map f (set xs i a) ≡ map f xs
map-changed f [] i was a found same = refl
map-changed f (x ∷ xs) zero was a found same = ap (λ y. y ∷ map f xs) (same ∙ ap f found)
map-changed f (x ∷ xs) (suc i) was a found same = ap (λ ys. f x ∷ ys) (map-changed f xs i was a found same)

-- some area is spent, after one of them got another count
any_spent-set : (xs : List AreaView) (i : ℕ) (a : AreaView) → i < length xs → (is_spent (get_or xs i no_area) ≡ true → is_spent a ≡ true)
    → list_any is_spent (set xs i a) ≡ not (not (list_any is_spent xs) && not (is_spent a))
any_spent-set [] i a lt stays = absurd (omega (arith, lt))
any_spent-set (x ∷ xs) zero a lt stays = grind (arith, common_steps, stays)
any_spent-set (x ∷ xs) (suc i) a lt stays = grind (arith, common_steps, any_spent-set xs i a (omega (arith, lt)) stays)

none_spent-at : (xs : List AreaView) (i : ℕ) → i < length xs → list_any is_spent xs ≡ false → is_spent (get_or xs i no_area) ≡ false
none_spent-at [] i lt e = absurd (omega (arith, lt))
none_spent-at (x ∷ xs) zero lt e = grind (arith, common_steps, e)
none_spent-at (x ∷ xs) (suc i) lt e = grind (arith, common_steps, e, none_spent-at xs i (omega (arith, lt)))

any_spent-kept : (xs : List AreaView) (i : ℕ) (was a : AreaView) → was ≡ get_or xs i was → is_spent a ≡ is_spent was
    → list_any is_spent (set xs i a) ≡ list_any is_spent xs
any_spent-kept [] i was a found same = refl
any_spent-kept (x ∷ xs) zero was a found same = grind (arith, common_steps, found, same)
any_spent-kept (x ∷ xs) (suc i) was a found same = ap (λ b. is_spent x || b) (any_spent-kept xs i was a found same)

size_of-kept : (was a : AreaView) → IsArea was → IsArea a → a.here ≡ was.here → length a.owners ≡ length was.owners → size_of a ≡ size_of was
size_of-kept was a old new here owners = grind (arith, common_steps)

-- a swap after the pager of the area at i was called
pub record Asked {A E : Type 0} (r : Result A E) (s : SwapView) (i : ℕ) (was a : AreaView) : Type 0 where
  pub before : area_at s i ≡ was
  pub after : area_at (asked_of s i a) i ≡ a
  pub flag : a.failed ≡ was.failed → (s.never_spent && not (is_spent a)) ≡ s.never_spent
  pub sound : IsSwap (asked_of s i a)
  pub goes_on : GoesOn s (asked_of s i a)
  pub same_sizes : sizes (asked_of s i a) ≡ sizes s
  pub cause : OnErr r (had_cause s (asked_of s i a) ≡ true)
  pub failures : Counts (is_ok r) s (asked_of s i a)

-- a swap after a successful call: only the calls of the area changed, or a page was written too
pub asked-calls : {A E : Type 0} {r : Result A E} {s : SwapView} {i : ℕ} {was a : AreaView} → Asked r s i was a → a ≡ with_calls was a.calls → asked_of s i a ≡ with_calls_at s i (area_at (asked_of s i a) i).calls
asked-calls {s = s} {i = i} {was = was} {a = a} d e =
    let same : a.failed ≡ was.failed = ap (λ (b : AreaView). b.failed) e in
    rw (d.after, d.flag same, d.before, e) refl

pub asked-page : {A E : Type 0} {r : Result A E} {s : SwapView} {i : ℕ} {was a : AreaView} (slot : ℕ) (page : List ℕ) → Asked r s i was a → a ≡ with_calls (with_page was slot page) a.calls
    → asked_of s i a ≡ with_area s i (with_calls (with_page (area_at s i) slot page) (area_at (asked_of s i a) i).calls)
asked-page {s = s} {i = i} {was = was} {a = a} slot page d e =
    let same : a.failed ≡ was.failed = ap (λ (b : AreaView). b.failed) e in
    rw (d.after, d.flag same, d.before, e) refl

-- a swap after a call on the area at i, which was `was` and is `a`
module _ (s : SwapView) (i : ℕ) (was a : AreaView) (found : was ≡ get_or s.areas i was) where
  -- the area that was at an index of the swap
  at_i : i < length s.areas → was ≡ area_at s i
  at_i within = found ∙ get_or_default s.areas i was no_area within

  GoesOn-changed : (flag : Bool) → a.start ≡ was.start → was.failed ≤ a.failed → a.most ≤ was.most → (a.here ≡ true → was.here ≡ true) → (flag ≡ true → s.never_spent ≡ true) → GoesOn s (changed s i a flag)
  GoesOn-changed flag start counts mosts here falls = grind (arith, common_steps)

  sizes-changed : IsSwap s → IsArea a → a.here ≡ was.here → length a.owners ≡ length was.owners → map size_of (set s.areas i a) ≡ sizes s
  sizes-changed swap area here owners = grind (arith, common_steps, set, map-changed, size_of-kept, at_i, set_past)

  -- count and flag are unchanged
  IsSwap-kept : IsSwap s → IsArea a → a.failed ≡ was.failed → IsSwap (changed s i a s.never_spent)
  IsSwap-kept swap area same = grind (arith, common_steps, any_spent-kept s.areas i was a found)

  GoesOn-kept : a.start ≡ was.start → a.failed ≡ was.failed → a.most ≤ was.most → (a.here ≡ true → was.here ≡ true) → GoesOn s (changed s i a s.never_spent)
  GoesOn-kept start failed mosts here = GoesOn-changed s.never_spent start (omega (arith, failed)) mosts here (λ flag. flag)

  total-kept : a.start ≡ was.start → a.failed ≡ was.failed → (flag : Bool) → total (changed s i a flag) ≡ total s
  unfolding total
  total-kept start failed flag = grind (arith, common_steps)

  -- a slot's owner was set, and its page may have changed
  module _ (slot : ℕ) (owner : Option PageRef) (pages : List (List ℕ)) (is : a ≡ record (with_owner was slot owner) { pages = pages }) where
    pub IsSwap-owner : IsSwap s → IsArea a → IsSwap (changed s i a s.never_spent)
    IsSwap-owner swap area = IsSwap-kept swap area (ap (λ (b : AreaView). b.failed) is)

    pub IsSteady-owner : IsSwap s → IsArea a → IsSteady s (changed s i a s.never_spent)
    IsSteady-owner swap area = grind (arith, common_steps, total-kept, sizes-changed)

  -- the pager was called
  flag-kept : i < length s.areas → IsSwap s → a.failed ≡ was.failed → (s.never_spent && not (is_spent a)) ≡ s.never_spent
  flag-kept within swap same = grind (arith, common_steps, at_i within, swap.unspent, none_spent-at s.areas i within)

  IsSwap-asked : i < length s.areas → was.failed ≤ a.failed → IsSwap s → IsArea a → IsSwap (asked_of s i a)
  IsSwap-asked within counts swap area = grind (arith, common_steps, at_i within, any_spent-set s.areas i a within)

  module _ (pages : List (List ℕ)) (failed most : ℕ) (calls : List SideCalls) (is : a ≡ record was { pages = pages; failed = failed; most = most; calls = calls }) where
    GoesOn-asked : was.failed ≤ a.failed → a.most ≤ was.most → GoesOn s (asked_of s i a)
    GoesOn-asked counts mosts = grind (arith, common_steps, GoesOn-changed)

    sizes-asked : IsSwap s → IsArea a → map size_of (set s.areas i a) ≡ sizes s
    sizes-asked swap area = grind (arith, common_steps, sizes-changed)

    -- a failure of the area is a cause
    had_cause-asked : (flag : Bool) (slot : ℕ) → HasSlot s i slot → IsSwap s → CountedFault was a → had_cause s (changed s i a flag) ≡ true
    unfolding total some_spent
    had_cause-asked flag slot there swap (inl counted) = grind (arith, common_steps, sum_by, swap.each)
    had_cause-asked flag slot there swap (inr spent) = grind (arith, common_steps, at_i, swap.each)

    -- and it is counted
    counts-asked : {A E : Type 0} (r : Result A E) (flag : Bool) (slot : ℕ) → HasSlot s i slot → IsSwap s → IfOk r (λ _. a.failed ≡ was.failed) → IfErr r (λ _. CountedFault was a) → Counts (is_ok r) s (changed s i a flag)
    unfolding total some_spent
    counts-asked (Ok x) flag slot there swap kept fault = total-kept (ap (λ (b : AreaView). b.start) is) kept flag
    counts-asked (Err x) flag slot there swap kept fault = λ unspent. grind (arith, common_steps, sum_by, at_i, swap.each)

    pub asked : {A E : Type 0} (r : Result A E) (slot : ℕ) → HasSlot s i slot → IsSwap s → was.failed ≤ a.failed → a.most ≤ was.most → IsArea a → IfOk r (λ _. a.failed ≡ was.failed) → IfErr r (λ _. CountedFault was a) → Asked r s i was a
    asked r slot there swap counts mosts area kept fault =
        record {
          before = sym (at_i there.0);
          after = get_or-set_same s.areas i a no_area there.0;
          flag = flag-kept there.0 swap;
          sound = IsSwap-asked there.0 counts swap area;
          goes_on = GoesOn-asked counts mosts;
          same_sizes = sizes-asked swap area;
          cause = IfErr-weaker r _ _ (λ _ f. had_cause-asked _ slot there swap f) fault;
          failures = counts-asked r _ slot there swap kept fault;
        }

  -- only the count, the bound on it and the calls changed
  pub SameSlots-asked : a ≡ record was { failed = a.failed; most = a.most; calls = a.calls } → SameSlots s (asked_of s i a)
  SameSlots-asked is = grind (arith, common_steps)

  -- only the bound on the count and the calls changed
  module _ (is : a ≡ record was { most = a.most; calls = a.calls }) where
    pub IsSwap-most : IsSwap s → IsArea a → IsSwap (changed s i a s.never_spent)
    IsSwap-most swap area = IsSwap-kept swap area (ap (λ (b : AreaView). b.failed) is)

    pub SameSlots-most : SameSlots s (changed s i a s.never_spent)
    SameSlots-most = grind (arith, common_steps)

    pub sizes-most : IsSwap s → IsArea a → map size_of (set s.areas i a) ≡ sizes s
    sizes-most swap area = sizes-changed swap area (ap (λ (b : AreaView). b.here) is) (ap (λ (b : AreaView). length b.owners) is)

  -- the pager was dropped
  module _ (is : a ≡ off was) where
    pub IsSwap-off : IsSwap s → IsArea a → IsSwap (changed s i a s.never_spent)
    IsSwap-off swap area = IsSwap-kept swap area (ap (λ (b : AreaView). b.failed) is)

    pub GoesOn-off : IsSwap s → i < length s.areas → GoesOn s (changed s i a s.never_spent)
    GoesOn-off swap within = grind (arith, common_steps, GoesOn-kept, at_i within, swap.each i)

    pub total-off : (flag : Bool) → total (changed s i a flag) ≡ total s
    total-off flag = total-kept (ap (λ (b : AreaView). b.start) is) (ap (λ (b : AreaView). b.failed) is) flag

    pub sizes-off : map size_of (set s.areas i a) ≡ set (sizes s) i None
    sizes-off = map-set size_of s.areas i a ∙ ap (λ (b : AreaView). set (sizes s) i (size_of b)) is
