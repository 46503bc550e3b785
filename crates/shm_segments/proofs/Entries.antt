-- One entry of a table is set: the entry, and sums over the entries.
use Rattle.shm_segments.proofs.Names.{◌≡◌, ◌≢◌, ℕ, zero, suc, ◌+◌, List, [], ◌∷◌, length, slice_get, Some, refl, ap, ◌∙◌, arith, get_or, length-set, get_or-set_same, sum_by, sum_by-set, slice_get_within, slice_get-get_or, get_or_from_slice_get, slice_set}

module _ {X : Type 0} where
  pub get-set_same : (t : List X) (i : ℕ) (e x : X) → slice_get t i ≡ Some x → slice_get (slice_set t i e) i ≡ Some e
  get-set_same t i e x h =
      let lt = slice_get_within t i x h in
      slice_get-get_or (slice_set t i e) i e (omega (arith, lt, length-set t i e)) ∙ ap Some (get_or-set_same t i e e lt)

  pub get-set_other : (t : List X) (i j : ℕ) (e : X) → i ≢ j → slice_get (slice_set t i e) j ≡ slice_get t j
  get-set_other [] i j e n = refl
  get-set_other (y ∷ ys) zero zero e n = absurd (n refl)
  get-set_other (y ∷ ys) zero (suc j) e n = refl
  get-set_other (y ∷ ys) (suc i) zero e n = refl
  get-set_other (y ∷ ys) (suc i) (suc j) e n = get-set_other ys i j e (λ k. n (ap suc k))

  pub length-slice_set : (t : List X) (i : ℕ) (e : X) → length (slice_set t i e) ≡ length t
  length-slice_set t i e = length-set t i e

  -- a sum loses the old entry's term and gains the new one's
  pub sum-set : (f : X → ℕ) (t : List X) (i : ℕ) (e x : X) → slice_get t i ≡ Some x → sum_by f (slice_set t i e) + f x ≡ sum_by f t + f e
  sum-set f t i e x h =
      let old : f (get_or t i x) ≡ f x = ap f (get_or_from_slice_get t i x x h) in
      omega (arith, old, sum_by-set f t i e x (slice_get_within t i x h))

  pub sum-set_same : (f : X → ℕ) (t : List X) (i : ℕ) (e x : X) → slice_get t i ≡ Some x → f e ≡ f x → sum_by f (slice_set t i e) ≡ sum_by f t
  sum-set_same f t i e x h same = let a = sum-set f t i e x h in omega (arith, a, same)
