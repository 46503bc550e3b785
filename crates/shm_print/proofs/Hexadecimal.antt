-- Hexadecimal digits, one after another from the last.
use Rattle.std.proofs.Common.{arith, ◌≡◌, ◌<◌, ◌≤◌, ◌/◌, ◌%◌, ◌+◌, ◌-◌, ◌==◌, length, drop, ℕ, zero, suc, Bool, true, false, List, [], ◌∷◌, ap, ◌∙◌, refl, if◌then◌else◌}
use Rattle.std.specs.Prelude.{IsAscii, set}
use Rattle.std.proofs.lemmas.List.{drop-set}
use Rattle.std.specs.Fmt.{digits, digits_onto, digit_glyph}
use Rattle.std.proofs.lemmas.Bool.{eq-eqb, ne_eqb}
use Rattle.std.proofs.lemmas.Str.Ascii.{IsAscii-nil, IsAscii-cons}

pub digits_whole : (n : ℕ) → digits_onto 64 16 false n [] ≡ digits 16 false n
unfolding digits
digits_whole n = refl

onto_by : (k n : ℕ) (acc : List ℕ) (t : Bool) → (n / 16 == 0) ≡ t
    → digits_onto (suc k) 16 false n acc ≡ (if t then digit_glyph false (n % 16) ∷ acc else digits_onto k 16 false (n / 16) (digit_glyph false (n % 16) ∷ acc))
onto_by k n acc t is = ap (λ (b : Bool). if b then digit_glyph false (n % 16) ∷ acc else digits_onto k 16 false (n / 16) (digit_glyph false (n % 16) ∷ acc)) is

-- a digit is put before those that are there
pub before : (room : List ℕ) (at d g : ℕ) → 0 < at → at ≤ length room → d ≡ g → drop (at - 1) (set room (at - 1) d) ≡ g ∷ drop at room
before room at d g some within is =
    let on : at - 1 + 1 ≡ at = omega (arith, some) in
    rw on at (drop-set room (at - 1) d (omega (arith, some, within))) ∙ ap (λ (x : ℕ). x ∷ drop at room) is

-- the first digit
pub onto_last : (i n : ℕ) (acc : List ℕ) → 0 < i → n / 16 ≡ 0 → digits_onto i 16 false n acc ≡ digit_glyph false (n % 16) ∷ acc
onto_last zero n acc h none = absurd (omega arith)
onto_last (suc k) n acc h none = onto_by k n acc true (eq-eqb _ 0 none)

-- a digit with others before it
pub onto_next : (i n : ℕ) (acc : List ℕ) → 0 < i → (n / 16 ≡ 0 → ⊥) → digits_onto i 16 false n acc ≡ digits_onto (i - 1) 16 false (n / 16) (digit_glyph false (n % 16) ∷ acc)
onto_next zero n acc h some = absurd (omega arith)
onto_next (suc k) n acc h some =
    onto_by k n acc false (ne_eqb _ 0 some)
    ∙ ap (λ (j : ℕ). digits_onto j 16 false (n / 16) (digit_glyph false (n % 16) ∷ acc)) {x = k} {y = suc k - 1} (omega arith)

glyph_small : (d : ℕ) → d < 16 → digit_glyph false d < 128
glyph_small d h = grind arith

onto_ascii : (k n : ℕ) (acc : List ℕ) → IsAscii acc → IsAscii (digits_onto k 16 false n acc)
onto_ascii zero n acc h = h
onto_ascii (suc k) n acc h =
    let more = IsAscii-cons (digit_glyph false (n % 16)) acc (glyph_small (n % 16) (omega arith)) h in
    either (n / 16 == 0) _ _ more (onto_ascii k (n / 16) _ more)
  where
    either : (b : Bool) (xs ys : List ℕ) → IsAscii xs → IsAscii ys → IsAscii (if b then xs else ys)
    either true xs ys p q = p
    either false xs ys p q = q

pub digits_ascii : (n : ℕ) → IsAscii (digits 16 false n)
unfolding digits
digits_ascii n = onto_ascii 64 n [] IsAscii-nil
