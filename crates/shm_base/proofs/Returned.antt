-- Numbers that are taken and returned; those returned are a list in some order.
use Rattle.std.proofs.Common.{◌≡◌, ℕ, ◌+◌, ◌<◌, ◌≤◌, true, false, nat_eq, List, [], ◌∷◌, length, slice_index_or, map, Ok, Err, Result, refl, sym, ap, ◌∙◌, arith, true≢false}
use Rattle.std.specs.Result.{OnOk, is_ok}
use Rattle.std.specs.Ordering.{nat_cmp}
use Rattle.std.specs.BinaryHeap.{IsUpperBound}
use Rattle.std.specs.List.{IsDistinct, AllByRecursion}
use Rattle.std.specs.List.Sorted.{IsPermutation}
use Rattle.std.specs.declared.cmp.Reverse.{Reverse}
use Rattle.std.proofs.lemmas.Bool.Decides.{nat_tests}
use Rattle.std.proofs.lemmas.List.Sorted.{list_any-IsPermutation}
use Rattle.std.proofs.lemmas.Map.Keys.{IsDistinct-IsPermutation, IsDistinct-cons, IsDistinct-tail, IsDistinct-head, ge_from_not_lt}
use Rattle.std.proofs.lemmas.Map.Steps.{length-le_from_distinct_below}
use Rattle.shm_base.specs.Numbers.{NumbersView, is_among, is_taken, IsLeastNumber, WithTaken, WithReturned, AreNumbersSound}

-- the property that a successful answer has
pub ok_given : {A E : Type 0} {P : Type 0} (r : Result A E) → is_ok r ≡ true → OnOk r P → P
ok_given (Ok a) is p = p
ok_given (Err e) is p = absurd (true≢false (sym is))

flips : (x y : ℕ) → nat_eq x y ≡ nat_eq y x
flips x y = grind (arith, nat_tests)

-- a number that is not in a list differs from each of its elements
apart : (n : ℕ) (xs : List ℕ) → is_among n xs ≡ false → AllByRecursion (λ y. nat_eq n y ≡ false) xs
apart n [] none = tt
apart n (x ∷ xs) none = (grind (arith, nat_tests), apart n xs (grind (arith, nat_tests)))

not_among : (n : ℕ) (xs : List ℕ) → AllByRecursion (λ y. nat_eq n y ≡ false) xs → is_among n xs ≡ false
not_among n [] all = refl
not_among n (x ∷ xs) all = let here = all.0 in let rest = not_among n xs all.1 in grind (arith, nat_tests)

-- NOTHING WAS TAKEN

pub sound_none : (room : ℕ) → AreNumbersSound (record { fresh = 0; returned = []; room = room })
unfolding IsDistinct
sound_none room = record { once = tt; within = λ n h. absurd (true≢false (sym h)); room = omega arith }

-- no more numbers were returned than were taken
pub few_returned : (v : NumbersView) → AreNumbersSound v → length v.returned ≤ v.room
few_returned v sound =
    let few : length v.returned ≤ v.fresh = length-le_from_distinct_below v.returned v.fresh sound.once sound.within in
    omega (arith, few, sound.room)

-- GIVEN BACK

module _ (v : NumbersView) (n : ℕ) (sound : AreNumbersSound v) (taken : is_taken v n ≡ true) where
  other : is_among n v.returned ≡ false
  other = grind (arith, nat_tests)

  below : n < v.fresh
  below = grind (arith, nat_tests)

  distinct : IsDistinct nat_eq (n ∷ v.returned)
  distinct = IsDistinct-cons nat_eq n v.returned (apart n v.returned other) sound.once

  within_more : (q : ℕ) → is_among q (n ∷ v.returned) ≡ true → q < v.fresh
  within_more q h = let w = sound.within q in grind (arith, nat_tests, below)

  -- there is room for it
  pub room_left : length v.returned < v.room
  room_left =
      let few : length (n ∷ v.returned) ≤ v.fresh = length-le_from_distinct_below (n ∷ v.returned) v.fresh distinct within_more in
      omega (arith, few, sound.room)

  module _ (ys : List ℕ) (moved : IsPermutation (n ∷ v.returned) ys) where
    same : (i : ℕ) → is_among i (n ∷ v.returned) ≡ is_among i ys
    same i = list_any-IsPermutation (nat_eq i) (n ∷ v.returned) ys moved

    pub sound_given : AreNumbersSound (record v { returned = ys })
    sound_given =
        record {
          once = IsDistinct-IsPermutation nat_eq flips (n ∷ v.returned) ys moved distinct;
          within = λ q h. within_more q (same q ∙ h);
          room = sound.room;
        }

    pub given : WithReturned v (record v { returned = ys }) n
    given i = let s = same i in grind (arith, nat_tests, s, below)

-- TAKEN

-- a returned number is below the fresh ones
module _ (v : NumbersView) (n : ℕ) (ys : List ℕ) (sound : AreNumbersSound v) (moved : IsPermutation v.returned (n ∷ ys)) where
  same_left : (i : ℕ) → is_among i v.returned ≡ is_among i (n ∷ ys)
  same_left i = list_any-IsPermutation (nat_eq i) v.returned (n ∷ ys) moved

  distinct_left : IsDistinct nat_eq (n ∷ ys)
  distinct_left = IsDistinct-IsPermutation nat_eq flips v.returned (n ∷ ys) moved sound.once

  once_left : is_among n ys ≡ false
  once_left = not_among n ys (IsDistinct-head nat_eq n ys distinct_left)

  pub among : is_among n v.returned ≡ true
  among = same_left n ∙ grind (arith, nat_tests)

  pub sound_taken : AreNumbersSound (record v { returned = ys })
  sound_taken =
      record {
        once = IsDistinct-tail nat_eq n ys distinct_left;
        within = λ q h. sound.within q (same_left q ∙ grind (arith, nat_tests, h));
        room = sound.room;
      }

  pub taken_from : WithTaken v (record v { returned = ys }) n
  taken_from i = let s = same_left i in let w = sound.within n among in grind (arith, nat_tests, s, w, once_left)

-- the top of a heap whose order is reversed: the least number
above : (i : ℕ) (x : Reverse ℕ) (xs : List (Reverse ℕ)) → IsUpperBound (λ a b. nat_cmp b.0 a.0) x xs → i < x.0 → is_among i (map (λ r. r.0) xs) ≡ false
above i x [] bound l = refl
above i x (y ∷ ys) bound l =
    let here : x.0 ≤ y.0 = ge_from_not_lt y.0 x.0 bound.0 in
    let rest = above i x ys bound.1 l in
    grind (arith, nat_tests)

pub least_top : (v : NumbersView) (x : Reverse ℕ) (xs : List (Reverse ℕ)) → AreNumbersSound v → v.returned ≡ map (λ r. r.0) xs → is_among x.0 v.returned ≡ true → IsUpperBound (λ a b. nat_cmp b.0 a.0) x xs
    → IsLeastNumber v x.0
least_top v x xs sound is here bound =
    let within = sound.within x.0 here in
    record {
      free = grind (arith, nat_tests);
      below = λ i l. let none : is_among i v.returned ≡ false = ap (is_among i) is ∙ above i x xs bound l in grind (arith, nat_tests);
    }

pub least_fresh : (v : NumbersView) → v.returned ≡ [] → IsLeastNumber v v.fresh
least_fresh v none =
    record {
      free = grind (arith, nat_tests);
      below = λ i l. let out : is_among i v.returned ≡ false = ap (is_among i) none in grind (arith, nat_tests);
    }

-- the first number that was never taken
pub sound_fresh : (v : NumbersView) → AreNumbersSound v → v.fresh < v.room → AreNumbersSound (record v { fresh = v.fresh + 1 })
sound_fresh v sound room = record { once = sound.once; within = λ n h. let w = sound.within n h in omega (arith, w); room = omega (arith, room) }

pub taken_fresh : (v : NumbersView) → v.returned ≡ [] → WithTaken v (record v { fresh = v.fresh + 1 }) v.fresh
taken_fresh v none i = let out : is_among i v.returned ≡ false = ap (is_among i) none in grind (arith, nat_tests)

-- the numbers in a heap: the returned ones
abbrev pub numbers_in : List (Reverse ℕ) → List ℕ
numbers_in xs = map (λ r. r.0) xs

-- the first of them is one of them
pub among_first : (x : Reverse ℕ) (xs : List (Reverse ℕ)) → 0 < length xs → x ≡ slice_index_or xs 0 x → is_among x.0 (numbers_in xs) ≡ true
among_first x [] some is = absurd (omega (arith, some))
among_first x (y ∷ ys) some is = let same : x.0 ≡ y.0 = ap (λ (r : Reverse ℕ). r.0) is in grind (arith, nat_tests)

pub none_in : (xs : List (Reverse ℕ)) → length xs ≡ 0 → numbers_in xs ≡ []
none_in [] none = refl
none_in (x ∷ xs) none = absurd (omega (arith, none))
