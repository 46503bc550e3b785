-- The hand on its way round the ring.
use Rattle.std.proofs.Common.{◌≡◌, ℕ, ◌+◌, ◌<◌, ◌≤◌, List, [], ◌∷◌, take, filter, length, get_or, Option, Some, None, unwrap_or, Bool, true, false, ◌&&◌, refl, sym, ap, ◌∙◌, arith, length-set, length-append}
use Rattle.std.proofs.lemmas.Grind.{common_steps}
use Rattle.std.specs.Prelude.{IfSome}
use Rattle.std.proofs.lemmas.List.{take_all}
use Rattle.shm_base.specs.declared.paging.PageRef.{PageRef}
use Rattle.shm_frames.specs.Frame.{Frame, frame_at}
use Rattle.shm_clock.specs.Clock.{ring, ring_at, may_go, is_referenced, unset, unset_all, candidates, looked_at}
use Rattle.shm_clock.proofs.Ring.{length-ring, distance-ring_at, ring_at-lt}
use Rattle.shm_clock.proofs.Firsts.{EachPasses, EachPasses-push, first_of, first_of-push, first_of-none, filter_more-true, filter_more-false, stops, ends}
use Rattle.shm_clock.proofs.Bits.{unset_all-at, unset_all-push, may_go-unset_all, among_is}
use Rattle.shm_clock.proofs.Rule.{IsRule}

-- after this many steps: the frames, the first eligible frame, and the looks
pub record IsOnWay (passes : PageRef → Bool) (pinned : Option ℕ) (hand : ℕ) (before : List Frame) (looked steps : ℕ) (now : List Frame) (first : Option ℕ) (looks : ℕ) : Type 0 where
  pub bits : now ≡ unset_all before (filter (may_go passes pinned before) (take steps (ring hand (length before))))
  pub set : EachPasses (is_referenced before) (filter (may_go passes pinned before) (take steps (ring hand (length before))))
  pub first_is : first ≡ first_of (filter (may_go passes pinned before) (take steps (ring hand (length before))))
  pub small : IfSome first (λ i. i < length before)
  pub counted : looks ≤ looked + steps
  pub looks_are : looks ≡ looked + length (filter (may_go passes pinned before) (take steps (ring hand (length before))))
  pub size : length now ≡ length before

unwrap_or-small : (o : Option ℕ) (i n : ℕ) → IfSome o (λ v. v < n) → i < n → unwrap_or o i < n
unwrap_or-small None i n h lt = lt
unwrap_or-small (Some v) i n h lt = h

and-true : (b : Bool) → (b && true) ≡ b
and-true true = refl
and-true false = refl

and-false : (b : Bool) → (b && false) ≡ false
and-false true = refl
and-false false = refl

module _ (passes : PageRef → Bool) (pinned : Option ℕ) (hand : ℕ) (before : List Frame) (on : hand < length before) where
  abbrev p : ℕ → Bool
  p = may_go passes pinned before

  abbrev xs : List ℕ
  xs = ring hand (length before)

  module _ (looked step : ℕ) (now : List Frame) (first : Option ℕ) (looks i : ℕ) (way : IsOnWay passes pinned hand before looked step now first looks) (lt : step < length before) (at : i ≡ ring_at hand (length before) step) where
    within : step < length xs
    within = rw (length-ring hand (length before) on) lt

    -- who may be taken has not changed
    may-same : p i ≡ may_go passes pinned now i
    may-same = rw way.bits (sym (may_go-unset_all passes pinned before (filter p (take step xs)) i))

    -- nor has the bit of a frame that was not met yet
    bit-same : is_referenced now i ≡ is_referenced before i
    bit-same = grind (arith, common_steps, unset_all-at, ring_at-lt, distance-ring_at, among_is, and-false, and-true)

    pub stops_here : may_go passes pinned now i ≡ true → is_referenced now i ≡ false → IsRule p hand before on i now
    stops_here may clear =
        let hit : p (get_or xs step 0) ≡ true = rw (← at) (may-same ∙ may) in
        let unset : is_referenced before (get_or xs step 0) ≡ false = rw (← at) (sym bit-same ∙ clear) in
        let s = stops p (is_referenced before) xs step within hit way.set unset in
        record { victim_is = at ∙ sym s.victim_is; after_is = way.bits ∙ ap (unset_all before) (sym s.before_is) }

    pub stop_counted : may_go passes pinned now i ≡ true → is_referenced now i ≡ false → looks + 1 ≡ looked + looked_at before (filter p xs) i
    stop_counted may clear =
        let hit : p (get_or xs step 0) ≡ true = rw (← at) (may-same ∙ may) in
        let unset : is_referenced before (get_or xs step 0) ≡ false = rw (← at) (sym bit-same ∙ clear) in
        let was : is_referenced before i ≡ false = sym bit-same ∙ clear in
        let s = stops p (is_referenced before) xs step within hit way.set unset in
        rw (s.before_is, was) (omega (arith, way.looks_are))

    pub goes_on : may_go passes pinned now i ≡ true → is_referenced now i ≡ true → IsOnWay passes pinned hand before looked (step + 1) (unset now i) (Some (unwrap_or first i)) (looks + 1)
    goes_on may bit =
        let hit : p (get_or xs step 0) ≡ true = rw (← at) (may-same ∙ may) in
        let was : is_referenced before (get_or xs step 0) ≡ true = rw (← at) (sym bit-same ∙ bit) in
        let more = filter_more-true p xs step within hit in
        record {
          bits = rw (more, unset_all-push before (filter p (take step xs)) (get_or xs step 0), ← at, ← way.bits) refl;
          set = rw more (EachPasses-push (is_referenced before) (filter p (take step xs)) (get_or xs step 0) way.set was);
          first_is = rw (more, first_of-push (filter p (take step xs)) (get_or xs step 0), ← way.first_is, ← at) refl;
          small = unwrap_or-small first i (length before) way.small (rw at (ring_at-lt hand (length before) step on lt));
          counted = omega (arith, way.counted);
          looks_are = rw more (omega (arith, way.looks_are, length-append (filter p (take step xs)) (get_or xs step 0 ∷ [])));
          size = length-set now i (record (frame_at now i) { referenced = false }) ∙ way.size;
        }

    pub passes_over : may_go passes pinned now i ≡ false → IsOnWay passes pinned hand before looked (step + 1) now first looks
    passes_over may = grind (arith, common_steps, may-same, filter_more-false, within)

  module _ (looked step : ℕ) (now : List Frame) (first : Option ℕ) (looks : ℕ) (way : IsOnWay passes pinned hand before looked step now first looks) (round : length before ≤ step) where
    past : length xs ≤ step
    past = rw (length-ring hand (length before) on) round

    pub comes_round : (v : ℕ) → first ≡ Some v → IsRule p hand before on v now
    comes_round v some = grind (arith, ends p (is_referenced before) xs step v past way.set (sym way.first_is ∙ some))

    pub round_counted : (v : ℕ) → first ≡ Some v → looks ≡ looked + looked_at before (filter p xs) v
    round_counted v some = grind (arith, ends p (is_referenced before) xs step v past way.set (sym way.first_is ∙ some))

    pub none_met : first ≡ None → candidates passes pinned before hand ≡ []
    none_met none = ap (filter p) (sym (take_all step xs past)) ∙ first_of-none (filter p (take step xs)) (sym way.first_is ∙ none)
