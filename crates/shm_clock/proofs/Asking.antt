-- The hand that only looks: nothing changes on its way.
use Rattle.std.proofs.Common.{◌≡◌, ℕ, ◌+◌, ◌<◌, ◌≤◌, List, [], ◌∷◌, take, filter, length, get_or, Option, Some, None, unwrap_or, Bool, true, false, refl, sym, ap, ◌∙◌}
use Rattle.std.specs.Prelude.{IfSome}
use Rattle.std.proofs.lemmas.List.{take_all}
use Rattle.shm_base.specs.declared.paging.PageRef.{PageRef}
use Rattle.shm_frames.specs.Frame.{Frame}
use Rattle.shm_clock.specs.Clock.{ring, ring_at, may_go, is_referenced, candidates, victim_of}
use Rattle.shm_clock.proofs.Ring.{length-ring, ring_at-lt}
use Rattle.shm_clock.proofs.Firsts.{EachPasses, EachPasses-push, first_of, first_of-push, first_of-none, filter_more-true, filter_more-false, stops, ends}

-- after this many steps: all eligible frames were referenced, and the first of them
pub record IsAsked (passes : PageRef → Bool) (pinned : Option ℕ) (hand : ℕ) (frames : List Frame) (steps : ℕ) (first : Option ℕ) : Type 0 where
  pub set : EachPasses (is_referenced frames) (filter (may_go passes pinned frames) (take steps (ring hand (length frames))))
  pub first_is : first ≡ first_of (filter (may_go passes pinned frames) (take steps (ring hand (length frames))))
  pub small : IfSome first (λ i. i < length frames)

unwrap_or-small : (o : Option ℕ) (i n : ℕ) → IfSome o (λ v. v < n) → i < n → unwrap_or o i < n
unwrap_or-small None i n h lt = lt
unwrap_or-small (Some v) i n h lt = h

module _ (passes : PageRef → Bool) (pinned : Option ℕ) (hand : ℕ) (frames : List Frame) (on : hand < length frames) where
  abbrev p : ℕ → Bool
  p = may_go passes pinned frames

  abbrev xs : List ℕ
  xs = ring hand (length frames)

  module _ (step : ℕ) (first : Option ℕ) (i : ℕ) (way : IsAsked passes pinned hand frames step first) (lt : step < length frames) (at : i ≡ ring_at hand (length frames) step) where
    within : step < length xs
    within = rw (length-ring hand (length frames) on) lt

    pub ask_stops : p i ≡ true → is_referenced frames i ≡ false → i ≡ victim_of frames (candidates passes pinned frames hand)
    ask_stops may clear =
        let hit : p (get_or xs step 0) ≡ true = rw (← at) may in
        let unset : is_referenced frames (get_or xs step 0) ≡ false = rw (← at) clear in
        at ∙ sym (stops p (is_referenced frames) xs step within hit way.set unset).victim_is

    pub ask_goes_on : p i ≡ true → is_referenced frames i ≡ true → IsAsked passes pinned hand frames (step + 1) (Some (unwrap_or first i))
    ask_goes_on may bit =
        let hit : p (get_or xs step 0) ≡ true = rw (← at) may in
        let was : is_referenced frames (get_or xs step 0) ≡ true = rw (← at) bit in
        let more = filter_more-true p xs step within hit in
        record {
          set = rw more (EachPasses-push (is_referenced frames) (filter p (take step xs)) (get_or xs step 0) way.set was);
          first_is = rw (more, first_of-push (filter p (take step xs)) (get_or xs step 0), ← way.first_is, ← at) refl;
          small = unwrap_or-small first i (length frames) way.small (rw at (ring_at-lt hand (length frames) step on lt));
        }

    pub ask_passes : p i ≡ false → IsAsked passes pinned hand frames (step + 1) first
    ask_passes may =
        let more = filter_more-false p xs step within (rw (← at) may) in
        record { set = rw more way.set; first_is = rw more way.first_is; small = way.small }

  module _ (step : ℕ) (first : Option ℕ) (way : IsAsked passes pinned hand frames step first) (round : length frames ≤ step) where
    past : length xs ≤ step
    past = rw (length-ring hand (length frames) on) round

    pub ask_round : (v : ℕ) → first ≡ Some v → v ≡ victim_of frames (candidates passes pinned frames hand)
    ask_round v some = sym (ends p (is_referenced frames) xs step v past way.set (sym way.first_is ∙ some)).victim_is

    pub ask_none : first ≡ None → candidates passes pinned frames hand ≡ []
    ask_none none = ap (filter p) (sym (take_all step xs past)) ∙ first_of-none (filter p (take step xs)) (sym way.first_is ∙ none)
