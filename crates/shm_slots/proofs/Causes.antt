-- Failures that are reported are failures that were counted.
use Rattle.std.proofs.Common.{Bool, None, ◌⊎◌, ◌≡◌, ℕ, suc, ◌<◌, ◌≤◌, true, false, List, [], ◌∷◌, All, length, get_or, refl, sym, ◌∙◌, arith, sum_by}
use Rattle.std.proofs.Math.ListN.{get_or-map}
use Rattle.std.proofs.lemmas.Bool.{false≢true}
use Rattle.std.proofs.lemmas.Bool.Decides.{nat_tests}
use Rattle.std.proofs.lemmas.Grind.{common_steps}
use Rattle.std.proofs.lemmas.List.Elements.{All-head, All-tail}
use Rattle.std.proofs.lemmas.List.Sums.{sum_by-cons}
use Rattle.std.specs.List.{list_all, list_any}
use Rattle.shm_pager_core.specs.Pages.{last_count}
use Rattle.shm_slots.specs.Cause.{Counts, some_spent, total, most_total, had_cause, GoesOn}
use Rattle.shm_slots.specs.View.{area_at, size_of, sizes, AreaView, SwapView, no_area, rise, most_rise, is_spent, is_spent_here, is_finite, are_finite, IsSwap, IsCounted, AreCountsOf}

pub GoesOn-refl : (s : SwapView) → GoesOn s s
GoesOn-refl s = record { areas = refl; starts = λ a. refl; counts = λ a. omega arith; mosts = λ a. omega arith; here = λ a e. e; flag = λ e. e }

pub GoesOn-trans : (s t u : SwapView) → GoesOn s t → GoesOn t u → GoesOn s u
GoesOn-trans s t u a b = grind (arith, nat_tests, common_steps, b.areas, a.areas, b.starts, a.starts, a.counts, b.counts, a.mosts, b.mosts, a.here, b.here, a.flag, b.flag)

-- counts that never fell, area by area
pub rises-le : (xs ys : List AreaView) → length ys ≡ length xs
    → ((k : ℕ) → (get_or ys k no_area).start ≡ (get_or xs k no_area).start)
    → ((k : ℕ) → (get_or xs k no_area).failed ≤ (get_or ys k no_area).failed)
    → sum_by rise xs ≤ sum_by rise ys
rises-le (x ∷ xs) (y ∷ ys) e s f =
    let rest = rises-le xs ys (omega (arith, e)) (λ k. s (suc k)) (λ k. f (suc k)) in
    let first : rise x ≤ rise y = omega (arith, s 0, f 0) in
    omega (arith, rest, first, sum_by-cons rise x xs, sum_by-cons rise y ys)
rises-le xs ys e s f = grind (arith, common_steps)

-- the sum of failures never falls
pub total-le : (s t : SwapView) → GoesOn s t → total s ≤ total t
unfolding total
total-le s t goes = rises-le s.areas t.areas goes.areas goes.starts goes.counts

spent-here : (xs : List AreaView) → list_any is_spent xs ≡ false → list_any is_spent_here xs ≡ false
spent-here [] e = refl
spent-here (x ∷ xs) e = grind (arith, common_steps, e, spent-here xs)

-- no area of a swap that was never spent is spent
pub some_spent-never : (s : SwapView) → IsSwap s → s.never_spent ≡ true → some_spent s ≡ false
unfolding some_spent
some_spent-never s swap flag = grind (arith, common_steps, spent-here s.areas, swap.unspent, flag)

-- if no area was spent, a cause is a failure that was counted
pub total-lt : (s t : SwapView) → some_spent s ≡ false → had_cause s t ≡ true → total s < total t
total-lt s t clear cause = grind (arith, common_steps, clear, cause)

-- counts within bounds that never rose, area by area
rises-most : (xs ys : List AreaView) → length ys ≡ length xs
    → ((k : ℕ) → (get_or ys k no_area).start ≡ (get_or xs k no_area).start)
    → ((k : ℕ) → (get_or ys k no_area).failed ≤ (get_or ys k no_area).most)
    → ((k : ℕ) → (get_or ys k no_area).most ≤ (get_or xs k no_area).most)
    → sum_by rise ys ≤ sum_by most_rise xs
rises-most (x ∷ xs) (y ∷ ys) e s f m =
    let rest = rises-most xs ys (omega (arith, e)) (λ k. s (suc k)) (λ k. f (suc k)) (λ k. m (suc k)) in
    let first : rise y ≤ most_rise x = omega (arith, s 0, f 0, m 0) in
    omega (arith, rest, first, sum_by-cons most_rise x xs, sum_by-cons rise y ys)
rises-most xs ys e s f m = grind (arith, common_steps)

-- the sum of failures stays within the bounds at the start
pub total-most : (s t : SwapView) → IsSwap t → GoesOn s t → total t ≤ most_total s
unfolding total most_total
total-most s t swap goes = rises-most s.areas t.areas goes.areas goes.starts (λ k. (swap.each k).bounded) goes.mosts

unspent-most : (xs ys : List AreaView) → length ys ≡ length xs
    → ((k : ℕ) → (get_or ys k no_area).failed ≤ (get_or ys k no_area).most)
    → ((k : ℕ) → (get_or ys k no_area).most ≤ (get_or xs k no_area).most)
    → list_all is_finite xs ≡ true → list_any is_spent ys ≡ false
unspent-most xs [] e f m few = refl
unspent-most [] (y ∷ ys) e f m few = absurd (omega (arith, e))
unspent-most (x ∷ xs) (y ∷ ys) e f m few =
    grind (arith, common_steps, few, f 0, m 0, unspent-most xs ys (omega (arith, e)) (λ k. f (suc k)) (λ k. m (suc k)))

-- no area is spent if a number below the last count bounds each area's count at the start
pub never_spent-most : (s t : SwapView) → IsSwap t → GoesOn s t → are_finite s ≡ true → t.never_spent ≡ true
never_spent-most s t swap goes few = rw (swap.unspent, unspent-most s.areas t.areas goes.areas (λ k. (swap.each k).bounded) goes.mosts few) refl

-- if all counts are 0, none has risen and none is at its last value
counts-zero : {P : Type 0} (failed : P → ℕ) (xs : List AreaView) → All (IsCounted failed) xs → ((p : P) → failed p ≡ 0)
    → (list_any is_spent xs ≡ false) × (sum_by rise xs ≡ 0)
counts-zero failed [] all none = (refl, refl)
counts-zero failed (x ∷ xs) all none =
    let first = All-head (IsCounted failed) x xs all in
    let start : x.start ≡ 0 = sym first.start.1 ∙ none first.start.0 in
    let now : x.failed ≡ 0 = sym first.now.1 ∙ none first.now.0 in
    let rest = counts-zero failed xs (All-tail (IsCounted failed) x xs all) none in
    (grind (arith, common_steps, now, rest.0), omega (arith, start, now, rest.1, sum_by-cons rise x xs))

-- over pagers that never count a failure, none was counted, and no area was ever spent
pub unfailing : {P : Type 0} (failed : P → ℕ) (s : SwapView) → IsSwap s → AreCountsOf failed s → ((p : P) → failed p ≡ 0)
    → (s.never_spent ≡ true) × (total s ≡ 0)
unfolding total
unfailing failed s swap counted none =
    let zero = counts-zero failed s.areas counted none in
    (grind (arith, common_steps, swap.unspent, zero.0), zero.1)

-- sizes and what follows from them
pub size-at : (s : SwapView) (area : ℕ) → get_or (sizes s) area None ≡ size_of (area_at s area)
size-at s area = get_or-map size_of s.areas area no_area

pub pages-same : (s t : SwapView) (area : ℕ) → sizes t ≡ sizes s → (area_at s area).here ≡ true → ((area_at t area).here ≡ true) × (length (area_at t area).pages ≡ length (area_at s area).pages)
pages-same s t area same here = grind (arith, nat_tests, size-at s area, size-at t area, same, here)

-- a step that counted no failure, and another one
pub failures-after : (ok : Bool) (s t u : SwapView) → total t ≡ total s → Counts ok t u → Counts ok s u
failures-after true s t u none more = more ∙ none
failures-after false s t u none more = λ unspent. rw (← none) (more unspent)

-- counts that never fell, area by area
record Rose (xs ys : List AreaView) : Type 0 where
  same : length ys ≡ length xs
  starts : (i : ℕ) → (get_or ys i no_area).start ≡ (get_or xs i no_area).start
  counts : (i : ℕ) → (get_or xs i no_area).failed ≤ (get_or ys i no_area).failed
  here : (i : ℕ) → (get_or ys i no_area).here ≡ true → (get_or xs i no_area).here ≡ true

rose-tail : (x y : AreaView) (xs ys : List AreaView) → Rose (x ∷ xs) (y ∷ ys) → Rose xs ys
rose-tail x y xs ys r = record { same = omega (arith, r.same); starts = λ i. r.starts (suc i); counts = λ i. r.counts (suc i); here = λ i. r.here (suc i) }

sum-rose : (xs ys : List AreaView) → Rose xs ys → sum_by rise xs ≤ sum_by rise ys
sum-rose xs ys r = rises-le xs ys r.same r.starts r.counts

spent-rose : (xs ys : List AreaView) → Rose xs ys → ((i : ℕ) → (get_or xs i no_area).start ≤ (get_or xs i no_area).failed) → list_any is_spent_here ys ≡ true
    → (sum_by rise xs < sum_by rise ys) ⊎ (list_any is_spent_here xs ≡ true)
spent-rose xs [] r begun e = absurd (false≢true e)
spent-rose [] (y ∷ ys) r begun e = absurd (omega (arith, r.same))
spent-rose (x ∷ xs) (y ∷ ys) r begun e =
    let tail = rose-tail x y xs ys r in
    let rest = spent-rose xs ys tail (λ i. begun (suc i)) in
    grind (arith, nat_tests, e, sum-rose xs ys tail, r.starts 0, r.counts 0, r.here 0, begun 0, rest, sum_by-cons rise x xs, sum_by-cons rise y ys)

spent-stays : (xs ys : List AreaView) → Rose xs ys → ((i : ℕ) → (get_or ys i no_area).failed ≤ last_count) → ((i : ℕ) → (get_or xs i no_area).here ≡ true → (get_or ys i no_area).here ≡ true) → list_any is_spent_here xs ≡ true → list_any is_spent_here ys ≡ true
spent-stays [] ys r few stay e = absurd (false≢true e)
spent-stays (x ∷ xs) [] r few stay e = absurd (omega (arith, r.same))
spent-stays (x ∷ xs) (y ∷ ys) r few stay e =
    grind (arith, nat_tests, e, r.counts 0, few 0, stay 0, spent-stays xs ys (rose-tail x y xs ys r) (λ i. few (suc i)) (λ i. stay (suc i)))

rose : (s t : SwapView) → GoesOn s t → Rose s.areas t.areas
rose s t g = record { same = g.areas; starts = g.starts; counts = g.counts; here = g.here }

-- what was spent by then had a cause before
pub spent-cause : (s t : SwapView) → IsSwap s → GoesOn s t → some_spent t ≡ true → had_cause s t ≡ true
unfolding total some_spent
spent-cause s t swap g e = grind (arith, nat_tests, spent-rose s.areas t.areas (rose s t g) (λ i. (swap.each i).begun) e)

pub cause-more : (s t u : SwapView) → GoesOn t u → had_cause s t ≡ true → had_cause s u ≡ true
cause-more s t u g e = grind (arith, nat_tests, total-le t u g, e)

pub cause-before : (s t u : SwapView) → (some_spent t ≡ true → had_cause s t ≡ true) → GoesOn s t → GoesOn t u → had_cause t u ≡ true → had_cause s u ≡ true
cause-before s t u spent g h e = grind (arith, nat_tests, total-le s t g, spent, cause-more s t u h, e)

-- a spent area stays spent, if none is turned off
pub unspent-before : (s t : SwapView) → IsSwap t → GoesOn s t → sizes t ≡ sizes s → some_spent t ≡ false → some_spent s ≡ false
unfolding some_spent
unspent-before s t swap g same e = grind (arith, nat_tests, common_steps, spent-stays, s.areas, t.areas, rose, swap.each, pages-same)
