-- If one piece serves the first addresses of an access, its first failure is that of the rest.
use Rattle.shm_attach.proofs.Names.{◌≡◌, ℕ, zero, suc, ◌+◌, ◌<◌, ◌≤◌, Bool, true, false, List, Some, None, refl, arith, covering, place_covering, place, is_allowed, first_failed}
use Rattle.shm_base.specs.State.{Piece}

allowed-by : (w : Bool) (ps : List Piece) (p : Piece) (a : ℕ) → (w ≡ true → p.writable ≡ true) → covering a ps ≡ Some p → is_allowed w (place ps a) ≡ true
allowed-by false ps p a may found = rw (place_covering a ps, found) refl
allowed-by true ps p a may found = rw (place_covering a ps, found) (may refl)

pub failed-served : (w : Bool) (ps : List Piece) (p : Piece) (a n m : ℕ) → (w ≡ true → p.writable ≡ true) → ((b : ℕ) → a ≤ b → b < a + n → covering b ps ≡ Some p)
    → first_failed w ps a (n + m) ≡ first_failed w ps (a + n) m
failed-served w ps p a zero m may all = let here : a + 0 ≡ a = omega arith in let rest : 0 + m ≡ m = omega arith in rw (here, rest) refl
failed-served w ps p a (suc n) m may all =
    let more : suc n + m ≡ suc (n + m) = omega arith in
    let next : a + suc n ≡ (a + 1) + n = omega arith in
    let here : is_allowed w (place ps a) ≡ true = allowed-by w ps p a may (all a (omega arith) (omega arith)) in
    rw (more, next, here) (failed-served w ps p (a + 1) n m may (λ b from to. all b (omega (arith, from)) (omega (arith, to))))

-- an address without a piece
pub failed-none : (w : Bool) (ps : List Piece) (a n : ℕ) → 1 ≤ n → covering a ps ≡ None → first_failed w ps a n ≡ Some a
failed-none w ps a zero some none = absurd (omega arith)
failed-none w ps a (suc n) some none = rw (place_covering a ps, none) refl

-- a write to a read-only piece
pub failed-readonly : (w : Bool) (ps : List Piece) (p : Piece) (a n : ℕ) → 1 ≤ n → w ≡ true → covering a ps ≡ Some p → p.writable ≡ false → first_failed w ps a n ≡ Some a
failed-readonly w ps p a zero some write found only = absurd (omega arith)
failed-readonly w ps p a (suc n) some write found only = rw (write, place_covering a ps, found, only) refl
