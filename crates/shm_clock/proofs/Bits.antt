-- What clearing the bits of a list of frames does to each frame.
use Rattle.std.proofs.Common.{◌≡◌, ◌≢◌, ◌⊎◌, ℕ, zero, suc, ◌+◌, ◌<◌, ◌≤◌, List, [], ◌∷◌, ◌++◌, length, take, filter, Bool, true, false, not, ◌&&◌, ◌||◌, Option, refl, sym, ap, ◌∙◌, inl, inr, arith, length-set}
use Rattle.std.proofs.lemmas.Grind.{common_steps}
use Rattle.std.specs.Prelude.{nat_eq, nat_lt}
use Rattle.std.specs.List.{list_any}
use Rattle.std.proofs.lemmas.Bool.{cases_lt, cases_eq, cases_Bool, eq-eqb, ne_eqb, lt-ltb, le-ltb}
use Rattle.std.proofs.lemmas.List.Folds.{list_any-append}
use Rattle.shm_base.specs.declared.paging.PageRef.{PageRef}
use Rattle.shm_frames.specs.Frame.{Frame, frame_at}
use Rattle.shm_clock.specs.Clock.{ring, ring_at, distance, may_go, owner_passes, is_pinned, unset, unset_all}
use Rattle.shm_clock.proofs.Ring.{length-ring, distance-ring_at, ring_at-distance}
use Rattle.shm_clock.proofs.Firsts.{filter_more-true, filter_more-false}

-- a frame with its bit kept only if the test says so
abbrev pub with_bit : Frame → Bool → Frame
with_bit f b = record f { referenced = f.referenced && b }

and-true : (b : Bool) → (b && true) ≡ b
and-true true = refl
and-true false = refl

and-false : (b : Bool) → (b && false) ≡ false
and-false true = refl
and-false false = refl

pub unset-at : (frames : List Frame) (k i : ℕ) → frame_at (unset frames k) i ≡ with_bit (frame_at frames i) (not (nat_eq k i))
unset-at frames k i = grind (arith, common_steps)

either : (b c d : Bool) → ((b && not c) && not d) ≡ (b && not (c || d))
either true true d = refl
either true false d = refl
either false c d = refl

-- the frame is one of the list
abbrev pub is_among : List ℕ → ℕ → Bool
is_among list i = list_any (λ k. nat_eq k i) list

pub unset_all-at : (frames : List Frame) (list : List ℕ) (i : ℕ) → frame_at (unset_all frames list) i ≡ with_bit (frame_at frames i) (not (is_among list i))
unset_all-at frames [] i = rw (and-true (frame_at frames i).referenced) refl
unset_all-at frames (k ∷ rest) i = grind (arith, common_steps, unset-at, either, unset_all-at (unset frames k) rest i)

pub length-unset_all : (frames : List Frame) (list : List ℕ) → length (unset_all frames list) ≡ length frames
length-unset_all frames [] = refl
length-unset_all frames (k ∷ rest) = length-unset_all (unset frames k) rest ∙ length-set frames k (record (frame_at frames k) { referenced = false })

pub unset_all-push : (frames : List Frame) (list : List ℕ) (i : ℕ) → unset_all frames (list ++ i ∷ []) ≡ unset (unset_all frames list) i
unset_all-push frames [] i = refl
unset_all-push frames (k ∷ rest) i = unset_all-push (unset frames k) rest i

pub may_go-unset_all : (passes : PageRef → Bool) (pinned : Option ℕ) (frames : List Frame) (list : List ℕ) (i : ℕ) → may_go passes pinned (unset_all frames list) i ≡ may_go passes pinned frames i
may_go-unset_all passes pinned frames list i = ap (λ f. owner_passes passes f.owner && not (is_pinned pinned i)) (unset_all-at frames list i)

-- a frame that passes p within n steps from the hand is among the first n of the ring that pass
module _ (p : ℕ → Bool) (hand n i : ℕ) (on : hand < n) (there : i < n) where
  abbrev passed : ℕ → List ℕ
  passed j = filter p (take j (ring hand n))

  among-more : (j : ℕ) → j < n → is_among (passed j) i ≡ (p i && nat_lt (distance hand n i) j) → is_among (passed (j + 1)) i ≡ (p i && nat_lt (distance hand n i) (j + 1))
  among-more j lt so = by (cases_Bool (p (ring_at hand n j))) (cases_eq (distance hand n i) j)
    where
      within : j < length (ring hand n)
      within = rw (length-ring hand n on) lt

      last : (b : Bool) → (b || false) ≡ b
      last true = refl
      last false = refl

      always : (b : Bool) → (b || true) ≡ true
      always true = refl
      always false = refl

      here : distance hand n i ≡ j → ring_at hand n j ≡ i
      here e = rw (← e) (ring_at-distance hand n i on there)

      apart : distance hand n i ≢ j → ring_at hand n j ≢ i
      apart ne e = ne (rw (← e) (distance-ring_at hand n j on lt))

      same : distance hand n i ≢ j → nat_lt (distance hand n i) (j + 1) ≡ nat_lt (distance hand n i) j
      same ne = side (cases_lt (distance hand n i) j)
        where
          side : (distance hand n i < j) ⊎ (j ≤ distance hand n i) → nat_lt (distance hand n i) (j + 1) ≡ nat_lt (distance hand n i) j
          side (inl l) = rw (lt-ltb (distance hand n i) j l, lt-ltb (distance hand n i) (j + 1) (omega arith)) refl
          side (inr g) = rw (le-ltb (distance hand n i) j g, le-ltb (distance hand n i) (j + 1) (omega arith)) refl

      by : (p (ring_at hand n j) ≡ true) ⊎ (p (ring_at hand n j) ≡ false) → (distance hand n i ≡ j) ⊎ (distance hand n i ≢ j) → is_among (passed (j + 1)) i ≡ (p i && nat_lt (distance hand n i) (j + 1))
      by (inl hit) (inl e) =
          let q : is_among (passed (j + 1)) i ≡ (is_among (passed j) i || (nat_eq (ring_at hand n j) i || false)) = rw (filter_more-true p (ring hand n) j within hit) (list_any-append (λ k. nat_eq k i) (passed j) (ring_at hand n j ∷ [])) in
          let pi : p i ≡ true = rw (here e) at hit in
          rw (q, eq-eqb (ring_at hand n j) i (here e), always (is_among (passed j) i), pi, lt-ltb (distance hand n i) (j + 1) (omega arith)) refl
      by (inl hit) (inr ne) =
          let q : is_among (passed (j + 1)) i ≡ (is_among (passed j) i || (nat_eq (ring_at hand n j) i || false)) = rw (filter_more-true p (ring hand n) j within hit) (list_any-append (λ k. nat_eq k i) (passed j) (ring_at hand n j ∷ [])) in
          rw (q, ne_eqb (ring_at hand n j) i (apart ne), last (is_among (passed j) i), same ne) so
      by (inr miss) (inl e) =
          let pi : p i ≡ false = rw (here e) at miss in
          rw (filter_more-false p (ring hand n) j within miss, pi) (rw pi at so)
      by (inr miss) (inr ne) = rw (filter_more-false p (ring hand n) j within miss, same ne) so

  pub among_is : (j : ℕ) → j ≤ n → is_among (passed j) i ≡ (p i && nat_lt (distance hand n i) j)
  among_is zero le = rw (le-ltb (distance hand n i) 0 (omega arith)) (sym (and-false (p i)))
  among_is (suc j) le = let one : j + 1 ≡ suc j = omega arith in rw (← one) (among-more j (omega arith) (among_is j (omega arith)))
