-- What a caller of the clock shows: that the list of eligible frames is not empty.
use Rattle.std.proofs.Common.{◌≡◌, ◌≢◌, ℕ, suc, ◌+◌, ◌<◌, ◌≤◌, List, [], ◌∷◌, ◌++◌, length, get_or, Bool, true, false, cond, Option, None, Some, refl, sym, ap, ◌∙◌, arith}
use Rattle.std.specs.Prelude.{count_by}
use Rattle.std.proofs.lemmas.Bool.{ne_eqb, eqb-true}
use Rattle.std.proofs.lemmas.List.Sums.{sum_by-cons}
use Rattle.shm_base.specs.declared.paging.PageRef.{PageRef}
use Rattle.shm_frames.specs.Frame.{Frame, frame_at}
use Rattle.shm_clock.specs.Clock.{ring, distance, may_go, candidates, owner_passes, is_pinned}
use Rattle.shm_clock.proofs.Ring.{length-ring, distance-lt, ring_at-distance}
use Rattle.shm_clock.proofs.Firsts.{filter-split}

nonempty : (xs ys : List ℕ) (x : ℕ) → xs ++ x ∷ ys ≢ []
nonempty [] ys x e = cc
nonempty (z ∷ xs) ys x e = cc

-- one frame may go
pub some_eligible : (passes : PageRef → Bool) (pinned : Option ℕ) (frames : List Frame) (hand i : ℕ) → hand < length frames → i < length frames → may_go passes pinned frames i ≡ true → candidates passes pinned frames hand ≢ []
some_eligible passes pinned frames hand i on there may e =
    let n : ℕ = length frames in
    let j : ℕ = distance hand n i in
    let within : j < length (ring hand n) = rw (length-ring hand n on) (distance-lt hand n i on there) in
    let hit : may_go passes pinned frames (get_or (ring hand n) j 0) ≡ true = rw (ring_at-distance hand n i on there) may in
    nonempty _ _ _ (sym (filter-split (may_go passes pinned frames) (ring hand n) j within hit) ∙ e)

-- the page in a frame may go
abbrev pub page_may_go : (PageRef → Bool) → Frame → Bool
page_may_go passes f = owner_passes passes f.owner

-- of these frames, the first of number k, one whose page may go and which is not pinned
record Other (passes : PageRef → Bool) (pinned : Option ℕ) (k : ℕ) (frames : List Frame) : Type 0 where
  i : ℕ
  there : i < length frames
  may : page_may_go passes (frame_at frames i) ≡ true
  loose : is_pinned pinned (k + i) ≡ false

module _ (passes : PageRef → Bool) where
  count-cons : (f : Frame) (fs : List Frame) (b : Bool) → page_may_go passes f ≡ b → count_by (page_may_go passes) (f ∷ fs) ≡ cond b 1 0 + count_by (page_may_go passes) fs
  count-cons f fs b e = sum_by-cons (λ g. cond (page_may_go passes g) 1 0) f fs ∙ ap (λ c. cond c 1 0 + count_by (page_may_go passes) fs) e

  later : (pinned : Option ℕ) (k : ℕ) (f : Frame) (fs : List Frame) → Other passes pinned (k + 1) fs → Other passes pinned k (f ∷ fs)
  later pinned k f fs r =
      let s : k + 1 + r.i ≡ k + suc r.i = omega arith in
      record { i = suc r.i; there = omega (arith, r.there); may = r.may; loose = rw s at r.loose }

  -- where none is pinned, one is enough
  one_of : (pinned : Option ℕ) (k : ℕ) (frames : List Frame) → 1 ≤ count_by (page_may_go passes) frames → ((i : ℕ) → k ≤ i → is_pinned pinned i ≡ false) → Other passes pinned k frames
  one_of pinned k [] some loose = absurd (omega arith)
  one_of pinned k (f ∷ fs) some loose = by (page_may_go passes f) refl (λ less. later pinned k f fs (one_of pinned (k + 1) fs less (λ i le. loose i (omega arith))))
    where
      by : (b : Bool) → page_may_go passes f ≡ b → (1 ≤ count_by (page_may_go passes) fs → Other passes pinned k (f ∷ fs)) → Other passes pinned k (f ∷ fs)
      by true e rest = record { i = 0; there = omega arith; may = e; loose = loose (k + 0) (omega arith) }
      by false e rest = let c = count-cons f fs false e in rest (omega (arith, c))

  pinned_here : (pinned : Option ℕ) (k i : ℕ) → is_pinned pinned k ≡ true → k + 1 ≤ i → is_pinned pinned i ≡ false
  pinned_here None k i e le = cc
  pinned_here (Some p) k i e le = let same : p ≡ k = eqb-true p k e in ne_eqb p i (λ q. absurd (omega arith))

  two_of : (pinned : Option ℕ) (k : ℕ) (frames : List Frame) → 2 ≤ count_by (page_may_go passes) frames → Other passes pinned k frames
  two_of pinned k [] two = absurd (omega arith)
  two_of pinned k (f ∷ fs) two = by (page_may_go passes f) refl (is_pinned pinned k) refl (λ less. later pinned k f fs (two_of pinned (k + 1) fs less))
    where
      by : (b : Bool) → page_may_go passes f ≡ b → (c : Bool) → is_pinned pinned k ≡ c → (2 ≤ count_by (page_may_go passes) fs → Other passes pinned k (f ∷ fs)) → Other passes pinned k (f ∷ fs)
      by true e false p rest = let z : k ≡ k + 0 = omega arith in record { i = 0; there = omega arith; may = e; loose = rw z at p }
      by true e true p rest =
          let c = count-cons f fs true e in
          later pinned k f fs (one_of pinned (k + 1) fs (omega (arith, c)) (λ i le. pinned_here pinned k i p le))
      by false e c p rest = let n = count-cons f fs false e in rest (omega (arith, n))

-- the pages in two frames may go, of which one at most is pinned
pub two_eligible : (passes : PageRef → Bool) (pinned : Option ℕ) (frames : List Frame) (hand : ℕ) → hand < length frames → 2 ≤ count_by (page_may_go passes) frames → candidates passes pinned frames hand ≢ []
two_eligible passes pinned frames hand on two =
    let o = two_of passes pinned 0 frames two in
    let z : 0 + o.i ≡ o.i = omega arith in
    let loose : is_pinned pinned o.i ≡ false = rw z at o.loose in
    some_eligible passes pinned frames hand o.i on o.there (rw (o.may, loose) refl)
