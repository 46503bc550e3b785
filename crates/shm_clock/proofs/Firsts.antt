-- The first element of a list that fails a test, and the elements before it.
use Rattle.std.proofs.Common.{◌≡◌, ℕ, ◌+◌, ◌<◌, ◌≤◌, List, [], ◌∷◌, ◌++◌, length, get_or, take, drop, filter, Bool, true, false, not, Option, Some, None, unwrap_or, refl, sym, ap, ◌∙◌, add-one, drop-cons, append-nil, arith}
use Rattle.std.proofs.lemmas.Grind.{common_steps}
use Rattle.std.specs.Prelude.{find, take_while, slice_index}
use Rattle.std.proofs.lemmas.List.{take-append-drop, take_all}
use Rattle.std.proofs.lemmas.List.Elements.{filter-append, filter_more}
use Rattle.std.proofs.lemmas.List.Sums.{take_while-cons}

-- each passes the test
abbrev pub EachPasses : (ℕ → Bool) → List ℕ → Type 0
EachPasses r [] = Unit {0}
EachPasses r (x ∷ xs) = (r x ≡ true) × EachPasses r xs

pub EachPasses-push : (r : ℕ → Bool) (xs : List ℕ) (x : ℕ) → EachPasses r xs → r x ≡ true → EachPasses r (xs ++ x ∷ [])
EachPasses-push r [] x each here = (here, tt)
EachPasses-push r (y ∷ xs) x each here = (each.0, EachPasses-push r xs x each.1 here)

-- the first of a list
abbrev pub first_of : List ℕ → Option ℕ
first_of [] = None
first_of (x ∷ xs) = Some x

pub first_of-push : (xs : List ℕ) (x : ℕ) → first_of (xs ++ x ∷ []) ≡ Some (unwrap_or (first_of xs) x)
first_of-push [] x = refl
first_of-push (y ∷ ys) x = refl

pub first_of-none : (xs : List ℕ) → first_of xs ≡ None → xs ≡ []
first_of-none [] e = refl
first_of-none (y ∷ ys) e = cc

first_of-some : (xs : List ℕ) (v : ℕ) → first_of xs ≡ Some v → slice_index xs 0 ≡ v
first_of-some [] v e = cc
first_of-some (y ∷ ys) v e = cc

module _ (r : ℕ → Bool) where
  -- one fails, after some that pass
  take_while-stop : (xs ys : List ℕ) (y : ℕ) → EachPasses r xs → r y ≡ false → take_while r (xs ++ y ∷ ys) ≡ xs
  take_while-stop [] ys y each fails = rw (take_while-cons r y ys, fails) refl
  take_while-stop (x ∷ xs) ys y each fails = rw (take_while-cons r x (xs ++ y ∷ ys), each.0) (ap (λ t. x ∷ t) (take_while-stop xs ys y each.1 fails))

  find-stop : (xs ys : List ℕ) (y : ℕ) → EachPasses r xs → r y ≡ false → find (λ x. not (r x)) (xs ++ y ∷ ys) ≡ Some y
  find-stop [] ys y each fails = rw fails refl
  find-stop (x ∷ xs) ys y each fails = rw each.0 (find-stop xs ys y each.1 fails)

  -- where all pass
  take_while-all : (xs : List ℕ) → EachPasses r xs → take_while r xs ≡ xs
  take_while-all [] each = refl
  take_while-all (x ∷ xs) each = rw (take_while-cons r x xs, each.0) (ap (λ t. x ∷ t) (take_while-all xs each.1))

  find-none : (xs : List ℕ) → EachPasses r xs → find (λ x. not (r x)) xs ≡ None
  find-none [] each = refl
  find-none (x ∷ xs) each = rw each.0 (find-none xs each.1)

module _ (p : ℕ → Bool) (xs : List ℕ) (j : ℕ) (lt : j < length xs) where
  pub filter_more-true : p (get_or xs j 0) ≡ true → filter p (take (j + 1) xs) ≡ filter p (take j xs) ++ get_or xs j 0 ∷ []
  filter_more-true hit = filter_more p xs j 0 lt ∙ rw hit refl

  pub filter_more-false : p (get_or xs j 0) ≡ false → filter p (take (j + 1) xs) ≡ filter p (take j xs)
  filter_more-false miss = filter_more p xs j 0 lt ∙ rw miss (append-nil _)

  split : xs ≡ take j xs ++ get_or xs j 0 ∷ drop (j + 1) xs
  split = rw (add-one, ← drop-cons xs j 0) (sym (take-append-drop j xs))

  pub filter-split : p (get_or xs j 0) ≡ true → filter p xs ≡ filter p (take j xs) ++ get_or xs j 0 ∷ filter p (drop (j + 1) xs)
  filter-split hit = grind (arith, common_steps, split, filter-append)

-- what the list of those that pass p gives, under the test r
pub record Stops (r : ℕ → Bool) (list : List ℕ) (victim : ℕ) (before : List ℕ) : Type 0 where
  pub victim_is : unwrap_or (find (λ x. not (r x)) list) (slice_index list 0) ≡ victim
  pub before_is : take_while r list ≡ before

module _ (p r : ℕ → Bool) (xs : List ℕ) (j : ℕ) where
  -- the scan stops at place j
  pub stops : j < length xs → p (get_or xs j 0) ≡ true → EachPasses r (filter p (take j xs)) → r (get_or xs j 0) ≡ false → Stops r (filter p xs) (get_or xs j 0) (filter p (take j xs))
  stops lt hit each fails =
      grind (
        arith,
        filter-split p xs j lt hit,
        find-stop r (filter p (take j xs)) (filter p (drop (j + 1) xs)) (get_or xs j 0) each fails,
        take_while-stop r (filter p (take j xs)) (filter p (drop (j + 1) xs)) (get_or xs j 0) each fails,
      )

  -- the scan reaches the end
  pub ends : (v : ℕ) → length xs ≤ j → EachPasses r (filter p (take j xs)) → first_of (filter p (take j xs)) ≡ Some v → Stops r (filter p xs) v (filter p (take j xs))
  ends v le each first = grind (arith, common_steps, take_all, find-none, first_of-some, take_while-all)
