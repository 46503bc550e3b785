-- Owned numbers and their count.
use Rattle.std.proofs.Common.{rules, ◌≡◌, ◌<◌, ◌+◌, ◌-◌, ◌∙◌, ℕ, true, get_or, set, length-set, sym, ap, inl, inr, true≢false, suc, cond, is_some, List, [], ◌∷◌, length, Option, Some, None, refl, arith}
use Rattle.std.proofs.lemmas.List.Sums.{sum_by-cons, sum_by-set}
use Rattle.std.proofs.lemmas.Bool.{cases_lt}
use Rattle.std.proofs.lemmas.Bool.Decides.{nat_tests}
use Rattle.std.proofs.lemmas.Grind.{common_steps}
use Rattle.shm_base.specs.Numbers.{NumbersView, IsLeastNumber, WithTaken, WithReturned}
use Rattle.shm_slots.specs.Owners.{UsedBelow, IsLeastFree, AreOwnersSound, used_count}

module _ {X : Type 0} where
  -- the least number that is not taken is the least free one, unless it is beyond the end
  pub used_before : (xs : List (Option X)) (v : NumbersView) (used n : ℕ) → AreOwnersSound xs v used → IsLeastNumber v n → UsedBelow n xs
  used_before xs v used n sound least i l = sym (sound.taken i) ∙ least.below i l

  pub least_is : (xs : List (Option X)) (v : NumbersView) (used n : ℕ) → AreOwnersSound xs v used → IsLeastNumber v n → n < length xs → IsLeastFree xs n
  least_is xs v used n sound least within =
      let t = sound.taken n in
      let f = least.free in
      record { within = within; free = grind (arith, common_steps, t, f); least = used_before xs v used n sound least }

  -- there is only one
  pub least_same : (xs : List (Option X)) (v : NumbersView) (used n i : ℕ) → AreOwnersSound xs v used → IsLeastNumber v n → IsLeastFree xs i → n ≡ i
  least_same xs v used n i sound least free =
      elim (cases_lt n i) [
        | inl lt ↦ let b = free.least n lt in let t = sound.taken n in let f = least.free in absurd (true≢false (sym b ∙ sym t ∙ f))
        | inr past ↦
            elim (cases_lt i n) [
              | inl lt ↦ let b = least.below i lt in let t = sound.taken i in let f = free.free in absurd (true≢false (sym b ∙ t ∙ ap is_some f))
              | inr before ↦ omega (arith, past, before)
            ]
      ]

  worth : (xs : List (Option X)) (n : ℕ) (o : Option X) → n < length xs → used_count (set xs n o) + cond (is_some (get_or xs n None)) 1 0 ≡ used_count xs + cond (is_some o) 1 0
  worth xs n o within = sum_by-set (λ p. cond (is_some p) 1 0) xs n o None within

  -- the least free number gets an owner
  pub sound-take : (xs : List (Option X)) (v w : NumbersView) (used n m : ℕ) (x : X) → AreOwnersSound xs v used → IsLeastFree xs n → IsLeastNumber v m → WithTaken v w m → w.room ≡ v.room → AreOwnersSound (set xs n (Some x)) w (used + 1)
  sound-take xs v w used n m x sound free least taken room =
      let same : m ≡ n = least_same xs v used m n sound least free in
      let count = worth xs n (Some x) free.within in
      let none = free.free in
      record {
        taken = λ i. let t = taken i in let s = sound.taken i in let within = free.within in grind (arith, common_steps, nat_tests, same, t, s);
        room = rw (room, length-set xs n (Some x)) sound.room;
        counted = let c : used_count (set xs n (Some x)) + 0 ≡ used_count xs + 1 = rw none at count in omega (arith, c, sound.counted);
      }

  -- an owned number becomes free
  pub sound-give : (xs : List (Option X)) (v w : NumbersView) (used n : ℕ) → AreOwnersSound xs v used → n < length xs → is_some (get_or xs n None) ≡ true → WithReturned v w n → w.room ≡ v.room → AreOwnersSound (set xs n None) w (used - 1)
  sound-give xs v w used n sound within owned given room =
      let count = worth xs n None within in
      record {
        taken = λ i. let t = given i in let s = sound.taken i in grind (arith, common_steps, nat_tests, t, s);
        room = rw (room, length-set xs n None) sound.room;
        counted = let c : used_count (set xs n None) + 1 ≡ used_count xs + 0 = rw owned at count in omega (arith, c, sound.counted);
      }

  -- if none is free, as many are owned as there are
  pub count-full : (xs : List (Option X)) → UsedBelow (length xs) xs → used_count xs ≡ length xs
  count-full [] used = refl
  count-full (None ∷ xs) used = absurd (let h = used 0 (omega arith) in search rules)
  count-full (Some x ∷ xs) used = omega (arith, count-full xs (λ i l. used (suc i) (omega arith)), sum_by-cons (λ o. cond (is_some o) 1 0) (Some x) xs)
