-- The rule on the list of eligible frames, said of each frame.
use Rattle.std.proofs.Common.{◌≡◌, ◌≢◌, ◌⊎◌, ℕ, zero, suc, ◌+◌, ◌<◌, ◌≤◌, List, [], length, take, filter, Bool, true, false, not, ◌&&◌, ◌||◌, Some, refl, sym, ap, ◌∙◌, inl, inr, arith, rules}
use Rattle.std.specs.Prelude.{nat_lt}
use Rattle.std.specs.List.{position_or_len}
use Rattle.std.proofs.lemmas.Bool.{cases_lt, cases_Bool, lt-ltb, and_parts, not-true}
use Rattle.std.proofs.lemmas.List.{take_all}
use Rattle.std.proofs.lemmas.List.Sums.{fails_before_first, passes_at_first}
use Rattle.shm_frames.specs.Frame.{Frame}
use Rattle.shm_clock.specs.Clock.{ring, ring_at, distance, is_referenced, victim_of, passed_by, unset_all, IsClockVictim}
use Rattle.shm_clock.proofs.Ring.{length-ring, distance-lt, distance-ring_at, ring_at-distance, ring_at-lt}
use Rattle.shm_clock.proofs.Firsts.{EachPasses, EachPasses-push, filter_more-true, filter_more-false, stops, ends, first_of, filter-split}
use Rattle.shm_clock.proofs.Bits.{is_among, unset_all-at, length-unset_all, among_is}

module _ (p : ℕ → Bool) (hand : ℕ) (frames : List Frame) (on : hand < length frames) where
  abbrev n : ℕ
  n = length frames

  abbrev xs : List ℕ
  xs = ring hand n

  abbrev bit : ℕ → Bool
  bit i = is_referenced frames i

  -- the frames that pass p within n steps have their bits set
  abbrev SetWithin : ℕ → Type 0
  SetWithin j = (k : ℕ) → k < j → p (ring_at hand n k) ≡ true → bit (ring_at hand n k) ≡ true

  each-set-more : (j : ℕ) → j < n → EachPasses bit (filter p (take j xs)) → (p (ring_at hand n j) ≡ true → bit (ring_at hand n j) ≡ true) → EachPasses bit (filter p (take (j + 1) xs))
  each-set-more j lt each here = by (cases_Bool (p (ring_at hand n j)))
    where
      within : j < length xs
      within = rw (length-ring hand n on) lt

      by : (p (ring_at hand n j) ≡ true) ⊎ (p (ring_at hand n j) ≡ false) → EachPasses bit (filter p (take (j + 1) xs))
      by (inl hit) = rw (filter_more-true p xs j within hit) (EachPasses-push bit (filter p (take j xs)) (ring_at hand n j) each (here hit))
      by (inr miss) = rw (filter_more-false p xs j within miss) each

  pub each-set : (j : ℕ) → j ≤ n → SetWithin j → EachPasses bit (filter p (take j xs))
  each-set zero le set = tt
  each-set (suc j) le set =
      let one : j + 1 ≡ suc j = omega arith in
      rw (← one) (each-set-more j (omega arith) (each-set j (omega arith) (λ k l. set k (omega arith))) (set j (omega arith)))

  filter-none : (j : ℕ) → j ≤ n → ((k : ℕ) → k < j → p (ring_at hand n k) ≡ false) → filter p (take j xs) ≡ []
  filter-none zero le none = refl
  filter-none (suc j) le none =
      let one : j + 1 ≡ suc j = omega arith in
      let within : j < length xs = rw (length-ring hand n on) (omega arith) in
      rw (← one) (filter_more-false p xs j within (none j (omega arith)) ∙ filter-none j (omega arith) (λ k l. none k (omega arith)))

  -- what the rule on the list says of a victim and of the frames afterwards
  pub record IsRule (victim : ℕ) (after : List Frame) : Type 0 where
    pub victim_is : victim ≡ victim_of frames (filter p xs)
    pub after_is : after ≡ unset_all frames (passed_by frames (filter p xs))

  -- the hand stops after j steps, at a clear bit
  at_clear : (j : ℕ) → j < n → p (ring_at hand n j) ≡ true → bit (ring_at hand n j) ≡ false → SetWithin j → IsClockVictim p hand frames (ring_at hand n j) (unset_all frames (filter p (take j xs)))
  at_clear j lt hit clear set =
      record {
        there = ring_at-lt hand n j on lt;
        eligible = hit;
        passed = λ i l may near. rw (ring_at-distance hand n i on l) at (set (distance hand n i) (rw (distance-ring_at hand n j on lt) at near) (rw (ring_at-distance hand n i on l) may));
        last_resort = λ was. absurd (search (rules, sym was ∙ clear));
        bits = λ i l.
            rw (unset_all-at frames (filter p (take j xs)) i, among_is p hand n i on l j (omega arith), distance-ring_at hand n j on lt, clear, or-false (nat_lt (distance hand n i) j)) refl;
        size = length-unset_all frames (filter p (take j xs));
      }
    where
      or-false : (b : Bool) → (b || false) ≡ b
      or-false true = refl
      or-false false = refl

  -- all bits are set, and the first frame that passes p is j steps away
  at_first : (j : ℕ) → j < n → p (ring_at hand n j) ≡ true → ((k : ℕ) → k < j → p (ring_at hand n k) ≡ false) → SetWithin n → IsClockVictim p hand frames (ring_at hand n j) (unset_all frames (filter p xs))
  at_first j lt hit none set =
      record {
        there = ring_at-lt hand n j on lt;
        eligible = hit;
        passed = λ i l may near. all-set i l may;
        last_resort = λ was i l may. (all-set i l may, rw (distance-ring_at hand n j on lt) (not-before i l may (cases_lt (distance hand n i) j)));
        bits = λ i l.
            rw (unset_all-at frames (filter p xs) i, among i l, set j lt hit, or-true (nat_lt (distance hand n i) (distance hand n (ring_at hand n j)))) refl;
        size = length-unset_all frames (filter p xs);
      }
    where
      or-true : (b : Bool) → (b || true) ≡ true
      or-true true = refl
      or-true false = refl

      all-set : (i : ℕ) → i < n → p i ≡ true → bit i ≡ true
      all-set i l may = rw (ring_at-distance hand n i on l) at (set (distance hand n i) (distance-lt hand n i on l) (rw (ring_at-distance hand n i on l) may))

      not-before : (i : ℕ) → i < n → p i ≡ true → (distance hand n i < j) ⊎ (j ≤ distance hand n i) → j ≤ distance hand n i
      not-before i l may (inl near) = absurd (search (rules, sym may ∙ (rw (ring_at-distance hand n i on l) at (none (distance hand n i) near))))
      not-before i l may (inr far) = far

      whole : take n xs ≡ xs
      whole = take_all n xs (rw (length-ring hand n on) (omega arith))

      among : (i : ℕ) → i < n → is_among (filter p xs) i ≡ (p i && true)
      among i l = rw (← whole) (rw (among_is p hand n i on l n (omega arith), lt-ltb (distance hand n i) n (distance-lt hand n i on l)) refl)

  -- the rule over the list, and the rule frame by frame
  pub rule-clock : filter p xs ≢ [] → (victim : ℕ) (after : List Frame) → IsRule victim after → IsClockVictim p hand frames victim after
  rule-clock some victim after r = by (cases_lt (position_or_len open_to xs) (length xs)) (cases_lt (position_or_len p xs) (length xs))
    where
      open_to : ℕ → Bool
      open_to i = p i && not (bit i)

      whole : take n xs ≡ xs
      whole = take_all n xs (rw (length-ring hand n on) (omega arith))

      set_if : (a b : Bool) → (a && not b) ≡ false → a ≡ true → b ≡ true
      set_if true true e h = refl
      set_if true false e h = absurd (search (rules, e))
      set_if false b e h = absurd (search (rules, h))

      by : (position_or_len open_to xs < length xs) ⊎ (length xs ≤ position_or_len open_to xs) → (position_or_len p xs < length xs) ⊎ (length xs ≤ position_or_len p xs) → IsClockVictim p hand frames victim after
      by (inl l) c =
          let j : ℕ = position_or_len open_to xs in
          let parts = and_parts (p (ring_at hand n j)) (not (bit (ring_at hand n j))) (passes_at_first open_to xs 0 l) in
          let clear : bit (ring_at hand n j) ≡ false = not-true (bit (ring_at hand n j)) parts.1 in
          let set : SetWithin j = λ k lt may. set_if (p (ring_at hand n k)) (bit (ring_at hand n k)) (fails_before_first open_to xs k 0 lt) may in
          let near : j < n = rw (length-ring hand n on) at l in
          let s = stops p bit xs j l parts.0 (each-set j (omega arith) set) clear in
          rw (r.victim_is, r.after_is, s.victim_is, s.before_is) (at_clear j near parts.0 clear set)
      by (inr g) (inl l) =
          let j : ℕ = position_or_len p xs in
          let hit = passes_at_first p xs 0 l in
          let none : (k : ℕ) → k < j → p (ring_at hand n k) ≡ false = λ k lt. fails_before_first p xs k 0 lt in
          let near : j < n = rw (length-ring hand n on) at l in
          let far : n ≤ position_or_len open_to xs = rw (length-ring hand n on) at g in
          let set : SetWithin n = λ k lt may. set_if (p (ring_at hand n k)) (bit (ring_at hand n k)) (fails_before_first open_to xs k 0 (omega arith)) may in
          let first : first_of (filter p (take n xs)) ≡ Some (ring_at hand n j) = rw (whole, filter-split p xs j l hit, filter-none j (omega arith) none) refl in
          let s = ends p bit xs n (ring_at hand n j) (rw (length-ring hand n on) (omega arith)) (each-set n (omega arith) set) first in
          rw (r.victim_is, r.after_is, s.victim_is, s.before_is, whole) (at_first j near hit none set)
      by (inr g) (inr none) =
          let far : n ≤ position_or_len p xs = rw (length-ring hand n on) at none in
          absurd (some (ap (filter p) (sym whole) ∙ filter-none n (omega arith) (λ k lt. fails_before_first p xs k 0 (omega arith))))
