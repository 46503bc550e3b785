-- An access within one page uses consecutive bytes of one piece; one over two pages uses the places of both.
use Rattle.shm_attach.proofs.Names.{◌≡◌, ℕ, zero, suc, ◌+◌, ◌-◌, ◌*◌, ◌%◌, ◌<◌, ◌≤◌, Bool, true, false, ◌&&◌, List, [], ◌∷◌, ◌++◌, map, Option, Some, None, option_map, refl, ap, ◌∙◌, arith, common_steps, All, map-append, Place, places, joined, covers, all_writable, only_writable, covering, place_covering, run, unmarked, wanted_in, found-passes}
use Rattle.shm_base.specs.State.{Piece}

-- TWO PARTS OF AN ACCESS

abbrev pub both : Option (List Place) → Option (List Place) → Option (List Place)
both None rest = None
both (Some xs) None = None
both (Some xs) (Some ys) = Some (xs ++ ys)

both-nil : (o : Option (List Place)) → both (Some []) o ≡ o
both-nil o = grind arith

joined-both : (p : Option Place) (x y : Option (List Place)) → joined p (both x y) ≡ both (joined p x) y
joined-both p x y = grind arith

places-sum : (ps : List Piece) (a n m : ℕ) → places ps a (n + m) ≡ both (places ps a n) (places ps (a + n) m)
places-sum ps a zero m = grind (arith, common_steps, both-nil)
places-sum ps a (suc n) m =
    let next : a + suc n ≡ (a + 1) + n = omega arith in
    let more : suc n + m ≡ suc (n + m) = omega arith in
    let rest = places-sum ps (a + 1) n m in
    rw (next, more) (grind (arith, joined-both))

all_writable-append : (xs ys : List Place) → all_writable (xs ++ ys) ≡ (all_writable xs && all_writable ys)
all_writable-append [] ys = refl
all_writable-append (x ∷ xs) ys = let rest = all_writable-append xs ys in grind (arith, common_steps)

only_writable-both : (x y : Option (List Place)) → only_writable (both x y) ≡ both (only_writable x) (only_writable y)
only_writable-both x y = grind (arith, all_writable-append)

map-both : (x y : Option (List Place)) → option_map (map unmarked) (both x y) ≡ both (option_map (map unmarked) x) (option_map (map unmarked) y)
map-both x y = grind (arith, map-append unmarked)

pub wanted_in-sum : (w : Bool) (ps : List Piece) (a n m : ℕ) → wanted_in w ps a (n + m) ≡ both (wanted_in w ps a n) (wanted_in w ps (a + n) m)
wanted_in-sum false ps a n m = ap (option_map (map unmarked)) (places-sum ps a n m) ∙ map-both (places ps a n) (places ps (a + n) m)
wanted_in-sum true ps a n m = grind (arith, common_steps, places-sum, only_writable-both, map-both)

pub wanted_in-first : (w : Bool) (ps : List Piece) (a n m len : ℕ) → n + m ≡ len → wanted_in w ps a n ≡ None → wanted_in w ps a len ≡ None
wanted_in-first w ps a n m len sum none = rw (← sum) (wanted_in-sum w ps a n m ∙ ap (λ o. both o (wanted_in w ps (a + n) m)) none)

pub wanted_in-second : (w : Bool) (ps : List Piece) (a n m len : ℕ) (xs : List Place) → n + m ≡ len → wanted_in w ps a n ≡ Some xs → wanted_in w ps (a + n) m ≡ None
    → wanted_in w ps a len ≡ None
wanted_in-second w ps a n m len xs sum some none = rw (← sum) (wanted_in-sum w ps a n m ∙ rw (some, none) refl)

pub wanted_in-both : (w : Bool) (ps : List Piece) (a n m len : ℕ) (xs ys : List Place) → n + m ≡ len → wanted_in w ps a n ≡ Some xs → wanted_in w ps (a + n) m ≡ Some ys
    → wanted_in w ps a len ≡ Some (xs ++ ys)
wanted_in-both w ps a n m len xs ys sum some more = rw (← sum) (wanted_in-sum w ps a n m ∙ rw (some, more) refl)

-- ONE PIECE

-- if each address of a range is in the piece, they denote consecutive bytes
pub places-run : (ps : List Piece) (p : Piece) (a n : ℕ) → p.base ≤ a → ((b : ℕ) → a ≤ b → b < a + n → covering b ps ≡ Some p)
    → places ps a n ≡ Some (run p.seg (4096 * p.first_page + (a - p.base)) n p.writable)
places-run ps p a zero le all = refl
places-run ps p a (suc n) le all = grind (arith, common_steps, place_covering, places-run ps p (a + 1) n)

unmarked-run : (seg at n : ℕ) (w : Bool) → map unmarked (run seg at n w) ≡ run seg at n false
unmarked-run seg at zero w = refl
unmarked-run seg at (suc n) w = ap (λ (ps : List Place). record { seg = seg; at = at; writable = false } ∷ ps) (unmarked-run seg (at + 1) n w)

all_writable-run : (seg at n : ℕ) → all_writable (run seg at n true) ≡ true
all_writable-run seg at zero = refl
all_writable-run seg at (suc n) = all_writable-run seg (at + 1) n

pub wanted_in-run : (w : Bool) (ps : List Piece) (p : Piece) (a n : ℕ) → (w ≡ true → p.writable ≡ true) → p.base ≤ a
    → ((b : ℕ) → a ≤ b → b < a + n → covering b ps ≡ Some p)
    → wanted_in w ps a n ≡ Some (run p.seg (4096 * p.first_page + (a - p.base)) n false)
wanted_in-run false ps p a n may le all =
    ap (option_map (map unmarked)) (places-run ps p a n le all) ∙ ap (λ (xs : List Place). Some xs) (unmarked-run p.seg (4096 * p.first_page + (a - p.base)) n p.writable)
wanted_in-run true ps p a n may le all =
    let at = 4096 * p.first_page + (a - p.base) in
    let whole : places ps a n ≡ Some (run p.seg at n true) = rw (may refl) at (places-run ps p a n le all) in
    rw (whole, all_writable-run p.seg at n) (ap (λ (xs : List Place). Some xs) (unmarked-run p.seg at n true))

-- an address without a piece
pub wanted_in-none : (w : Bool) (ps : List Piece) (a n : ℕ) → 1 ≤ n → covering a ps ≡ None → wanted_in w ps a n ≡ None
wanted_in-none w ps a zero some none = absurd (omega arith)
wanted_in-none w ps a (suc n) some none = grind (arith, common_steps, place_covering)

-- a write to a read-only piece
pub wanted_in-readonly : (ps : List Piece) (p : Piece) (a n : ℕ) → 1 ≤ n → covering a ps ≡ Some p → p.writable ≡ false → wanted_in true ps a n ≡ None
wanted_in-readonly ps p a zero some found only = absurd (omega arith)
wanted_in-readonly ps p a (suc n) some found only = grind (arith, common_steps, place_covering)

-- THE PIECE OF AN ADDRESS

-- a property of all pieces holds for the one with an address
pub covering-passes : (P : Piece → Type 0) (a : ℕ) (ps : List Piece) (p : Piece) → All P ps → covering a ps ≡ Some p → P p
covering-passes P a ps p all found = found-passes P (λ (q : Piece). covers q a) ps p all found

-- the addresses of a page are on one side of a page boundary
pub in_page : (base pages a b n : ℕ) → base % 4096 ≡ 0 → base ≤ a → a < base + 4096 * pages → a % 4096 + n ≤ 4096 → b < a + n → b < base + 4096 * pages
in_page base pages a b n aligned from to page lt = omega arith
