-- Lists of which only the first items are stored: reading and changing them.
use Rattle.std.proofs.Common.{◌≡◌, ℕ, zero, suc, ◌<◌, ◌≤◌, ◌-◌, ◌+◌, List, [], ◌∷◌, ◌++◌, length, get_or, set, map, replicate, refl, sym, ap, ◌∙◌, inl, inr, arith, length-append, length-set}
use Rattle.std.proofs.lemmas.List.{length-replicate, get_or_past, set_past, set-get_or, set-append_left, length-map, replicate-append-replicate, append-nil}
use Rattle.std.proofs.lemmas.Bool.{cases_lt}
use Rattle.shm_base.specs.Stored.{padded}

module _ {X : Type 0} where
  -- how many are stored after all below a number are
  pub size-padded : (xs : List X) (m : ℕ) (d : X) → length (padded xs m d) ≡ length xs + (m - length xs)
  size-padded xs m d = length-append xs (replicate (m - length xs) d) ∙ ap (λ k. length xs + k) (length-replicate (m - length xs) d)

  pub within-padded : (xs : List X) (m i : ℕ) (d : X) → i < m → i < length (padded xs m d)
  within-padded xs m i d below = rw (size-padded xs m d) (omega (arith, below))

  pub fits-padded : (xs : List X) (m n : ℕ) (d : X) → m ≤ n → length xs ≤ n → length (padded xs m d) ≤ n
  fits-padded xs m n d few within = rw (size-padded xs m d) (omega (arith, few, within))

  pub length-padded : (xs : List X) (n : ℕ) (d : X) → length xs ≤ n → length (padded xs n d) ≡ n
  length-padded xs n d within = size-padded xs n d ∙ omega (arith, within)

  get_or-same : (n i : ℕ) (d : X) → get_or (replicate n d) i d ≡ d
  get_or-same zero i d = refl
  get_or-same (suc n) zero d = refl
  get_or-same (suc n) (suc i) d = get_or-same n i d

  get_or-more : (xs : List X) (m i : ℕ) (d : X) → get_or (xs ++ replicate m d) i d ≡ get_or xs i d
  get_or-more [] m i d = get_or-same m i d
  get_or-more (x ∷ xs) m zero d = refl
  get_or-more (x ∷ xs) m (suc i) d = get_or-more xs m i d

  -- beyond the end the other item is read
  pub get_or-padded : (xs : List X) (n i : ℕ) (d : X) → get_or (padded xs n d) i d ≡ get_or xs i d
  get_or-padded xs n i d = get_or-more xs (n - length xs) i d

  -- writing back what was read changes nothing
  pub set-read : (xs : List X) (i : ℕ) (x : X) → x ≡ get_or xs i x → set xs i x ≡ xs
  set-read xs i x read = ap (set xs i) read ∙ set-get_or xs i x

  -- a stored item changes
  pub set-padded : (xs : List X) (n i : ℕ) (x d : X) → i < length xs → padded (set xs i x) n d ≡ set (padded xs n d) i x
  set-padded xs n i x d stored = rw (length-set xs i x) (sym (set-append_left xs (replicate (n - length xs) d) i x stored))

  -- a stored item becomes like the others
  pub unset-padded : (xs : List X) (n i : ℕ) (d : X) → padded (set xs i d) n d ≡ set (padded xs n d) i d
  unset-padded xs n i d =
      elim (cases_lt i (length xs)) [
        | inl stored ↦ set-padded xs n i d d stored
        | inr past ↦
            let same : get_or (padded xs n d) i d ≡ d = get_or-padded xs n i d ∙ get_or_past xs i d past in
            rw (set_past xs i d past) (let back : set (padded xs n d) i (get_or (padded xs n d) i d) ≡ padded xs n d = set-get_or (padded xs n d) i d in let kept : set (padded xs n d) i d ≡ padded xs n d = rw same at back in sym kept)
      ]

  -- the first item that was not stored is stored
  pub push-padded : (xs : List X) (n : ℕ) (x d : X) → length xs < n → padded (xs ++ x ∷ []) n d ≡ set (padded xs n d) (length xs) x
  push-padded xs n x d more = by xs (n - length xs) (n - length (xs ++ x ∷ [])) (let e = length-append xs (x ∷ []) in omega (arith, more, e))
    where
      by : (ys : List X) (m k : ℕ) → m ≡ suc k → (ys ++ x ∷ []) ++ replicate k d ≡ set (ys ++ replicate m d) (length ys) x
      by [] m k e = rw e refl
      by (y ∷ ys) m k e = ap (λ l. y ∷ l) (by ys m k e)

  more-same : (xs : List X) (m k : ℕ) (d : X) → (xs ++ replicate m d) ++ replicate k d ≡ xs ++ replicate (m + k) d
  more-same [] m k d = replicate-append-replicate m k d
  more-same (x ∷ xs) m k d = ap (λ l. x ∷ l) (more-same xs m k d)

  -- storing more items that are like the others changes nothing
  pub padded-padded : (xs : List X) (m n : ℕ) (d : X) → m ≤ n → length xs ≤ n → padded (padded xs m d) n d ≡ padded xs n d
  padded-padded xs m n d few within =
      let sum : m - length xs + (n - length (padded xs m d)) ≡ n - length xs = rw (size-padded xs m d) (omega (arith, few, within)) in
      more-same xs (m - length xs) (n - length (padded xs m d)) d ∙ ap (λ k. xs ++ replicate k d) sum

  -- one more item that is like the others is stored
  pub more-padded : (xs : List X) (m : ℕ) (d : X) → length xs ≤ m → padded xs m d ++ d ∷ [] ≡ padded xs (m + 1) d
  more-padded xs m d within = more-same xs (m - length xs) 1 d ∙ ap (λ k. xs ++ replicate k d) (let e : m - length xs + 1 ≡ m + 1 - length xs = omega (arith, within) in e)

  -- there are no more items than the stored ones
  pub padded-none : (xs : List X) (m : ℕ) (d : X) → m ≤ length xs → padded xs m d ≡ xs
  padded-none xs m d few = let none : m - length xs ≡ 0 = omega (arith, few) in rw none (append-nil xs)

  -- all items are like the others
  pub padded-same : (k n : ℕ) (d : X) → k ≤ n → padded (replicate k d) n d ≡ replicate n d
  padded-same k n d few = rw (length-replicate k d) (more-same [] k (n - k) d ∙ ap (λ m. replicate m d) (let e : k + (n - k) ≡ n = omega (arith, few) in e))

-- each item changed
pub map-padded : {X Y : Type 0} (f : X → Y) (xs : List X) (n : ℕ) (d : X) → map f (padded xs n d) ≡ padded (map f xs) n (f d)
map-padded {X = X} f xs n d = by xs (n - length xs) ∙ ap (λ k. map f xs ++ replicate (n - k) (f d)) (sym (length-map xs f))
  where
    same : (k : ℕ) → map f (replicate k d) ≡ replicate k (f d)
    same zero = refl
    same (suc k) = ap (λ l. f d ∷ l) (same k)

    by : (ys : List X) (k : ℕ) → map f (ys ++ replicate k d) ≡ map f ys ++ replicate k (f d)
    by [] k = same k
    by (y ∷ ys) k = ap (λ l. f y ∷ l) (by ys k)
