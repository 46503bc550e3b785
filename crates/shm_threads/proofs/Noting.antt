-- A list whose elements are changed one after the other.
use Rattle.shm_threads.proofs.Names.{◌≡◌, ◌<◌, ◌+◌, ◌++◌, ◌==◌, ℕ, List, [], ◌∷◌, map, length, take, drop, if◌then◌else◌, ap, ◌∙◌, refl, arith, eq-eqb, get_or, set, ne_eqb, ProcessState}
use Prim.Native.Nat.{zero, suc}

module _ {X : Type 0} (f : X → X) where
  -- the first ones changed, and the rest
  abbrev pub noted : ℕ → List X → List X
  noted i xs = map f (take i xs) ++ drop i xs

  next_noted : (xs : List X) (i k : ℕ) (d : X) → i < length xs → k ≡ suc i → set (noted i xs) i (f (get_or xs i d)) ≡ noted k xs
  next_noted [] i k d lt is = absurd (omega (arith, lt))
  next_noted (x ∷ xs) zero k d lt is = rw is refl
  next_noted (x ∷ xs) (suc i) k d lt is = rw is (ap (λ ys. f x ∷ ys) (next_noted xs i (suc i) d (omega (arith, lt)) refl))

  still : (xs : List X) (i : ℕ) (d : X) → i < length xs → get_or (noted i xs) i d ≡ get_or xs i d
  still [] i d lt = absurd (omega (arith, lt))
  still (x ∷ xs) zero d lt = refl
  still (x ∷ xs) (suc i) d lt = still xs i d (omega (arith, lt))

  -- one more element has its new value
  pub one_noted : (xs cur : List X) (i : ℕ) (y d : X) → i < length xs → cur ≡ noted i xs → y ≡ f (get_or cur i d) → set cur i y ≡ noted (i + 1) xs
  one_noted xs cur i y d lt is value =
      let same : y ≡ f (get_or xs i d) = value ∙ ap (λ ys. f (get_or ys i d)) is ∙ ap f (still xs i d lt) in
      ap (λ ys. set ys i y) is ∙ ap (λ z. set (noted i xs) i z) same ∙ next_noted xs i (i + 1) d lt (omega arith)

module _ (change : ProcessState → ProcessState) (pid : ℕ) where
  -- the process of this pid is changed
  abbrev pub changed : ProcessState → ProcessState
  changed p = if p.pid == pid then change p else p

  -- one more process, which is changed if it has the pid
  pub this_noted : (all items : List ProcessState) (i : ℕ) (d : ProcessState) → i < length all → items ≡ noted changed i all → (get_or items i d).pid ≡ pid → set items i (change (get_or items i d)) ≡ noted changed (i + 1) all
  this_noted all items i d lt is own = one_noted changed all items i _ d lt is (rw (eq-eqb (get_or items i d).pid pid own) refl)

  -- and left as it is if it has another
  pub other_noted : (all items : List ProcessState) (i : ℕ) (d : ProcessState) → i < length all → items ≡ noted changed i all → ((get_or items i d).pid ≡ pid → ⊥) → set items i (get_or items i d) ≡ noted changed (i + 1) all
  other_noted all items i d lt is other = one_noted changed all items i _ d lt is (rw (ne_eqb (get_or items i d).pid pid other) refl)
