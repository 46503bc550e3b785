-- The words that are left after the first ones.
use Rattle.shm_program.proofs.Names.{arith, ◌≡◌, ◌∙◌, ◌≤◌, ◌-◌, ap, sym, List, [], ◌∷◌, length, take, drop, get_or, take-length}

-- a list with an item, and the rest of it
pub one_up : {X : Type 0} (xs : List X) (x : X) → 1 ≤ length xs → get_or xs 0 x ≡ x → xs ≡ x ∷ take (length xs - 1) (drop 1 xs)
one_up [] x low is = absurd (omega (arith, low))
one_up (y ∷ ys) x low is =
    let count : length (y ∷ ys) - 1 ≡ length ys = omega arith in
    ap (λ z. z ∷ ys) is ∙ ap (λ l. x ∷ l) (sym (ap (λ n. take n ys) count ∙ take-length ys))

-- a list with two items, and the rest of it
pub two_up : {X : Type 0} (xs : List X) (x y : X) → 2 ≤ length xs → get_or xs 0 x ≡ x → get_or xs 1 y ≡ y → xs ≡ x ∷ y ∷ take (length xs - 2) (drop 2 xs)
two_up [] x y low is next = absurd (omega (arith, low))
two_up (a ∷ []) x y low is next = absurd (omega (arith, low))
two_up (a ∷ b ∷ ys) x y low is next =
    let count : length (a ∷ b ∷ ys) - 2 ≡ length ys = omega arith in
    ap (λ z. z ∷ b ∷ ys) is ∙ ap (λ z. x ∷ z ∷ ys) next ∙ ap (λ l. x ∷ y ∷ l) (sym (ap (λ n. take n ys) count ∙ take-length ys))
