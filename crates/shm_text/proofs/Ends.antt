-- Where the first line of a text ends.
use Rattle.shm_text.proofs.Names.{common_steps, arith, inl, inr, ◌≡◌, ◌<◌, ◌≤◌, ◌+◌, ◌-◌, ◌∙◌, ap, sym, refl, ℕ, zero, suc, List, [], ◌∷◌, length, get_or, take, drop, true, false, eqb, min, cases_Bool, drop-length, nat_tests, length-take-le, get_or-take, take_all, take-take, drop-take, is_allowed, lines_of, line_end, first_line}
use Rattle.shm_text.proofs.Cut.{lines_of-cut, lines_of-last}

-- it ends after any of its bytes other than LF
pub ends_behind : (text : List ℕ) (at : ℕ) → at ≤ line_end text → at < length text → eqb (get_or text at 0) 10 ≡ false → at + 1 ≤ line_end text
ends_behind [] at low within other = absurd (omega arith)
ends_behind (b ∷ text) zero low within other = rw other (omega arith)
ends_behind (b ∷ text) (suc at) low within other =
    elim (cases_Bool (eqb b 10)) [
      | inl here ↦ absurd (omega (arith, (rw here at low)))
      | inr later ↦ rw later (let rest = ends_behind text at (omega (arith, (rw later at low))) (omega arith) other in omega (arith, rest))
    ]

-- it ends at an LF
pub ends_at : (text : List ℕ) (at : ℕ) → at ≤ line_end text → at < length text → eqb (get_or text at 0) 10 ≡ true → at ≡ line_end text
ends_at [] at low within here = absurd (omega arith)
ends_at (b ∷ text) zero low within here = rw here refl
ends_at (b ∷ text) (suc at) low within here =
    elim (cases_Bool (eqb b 10)) [
      | inl first ↦ absurd (omega (arith, (rw first at low)))
      | inr later ↦ rw later (let rest = ends_at text at (omega (arith, (rw later at low))) (omega arith) here in omega (arith, rest))
    ]

pub ends_within : (text : List ℕ) → line_end text ≤ length text
ends_within [] = omega arith
ends_within (b ∷ text) = grind (arith, common_steps, ends_within text)

pub length_line : (text : List ℕ) → length (first_line text) ≡ line_end text
length_line text = length-take-le (line_end text) text (ends_within text)

pub on_line : (text : List ℕ) (at : ℕ) → at + 1 ≤ line_end text → at < length (first_line text)
on_line text at on = omega (arith, on, length_line text)

pub byte_of_line : (text : List ℕ) (at : ℕ) → at + 1 ≤ line_end text → get_or (first_line text) at 0 ≡ get_or text at 0
byte_of_line text at on = get_or-take (line_end text) text at 0 (omega (arith, on))

pub no_lf : (b : ℕ) → is_allowed b ≡ true → eqb b 10 ≡ false
no_lf b e = grind (arith, nat_tests)

-- a word of the line is a word of the text
pub word_of_line : (text : List ℕ) (start at : ℕ) → start ≤ at → at ≤ line_end text → take (at - start) (drop start text) ≡ take (at - start) (drop start (first_line text))
word_of_line text start at begun on =
    let n = line_end text in
    let whole : start + (n - start) ≡ n = omega arith in
    sym (take-take (at - start) (n - start) (drop start text) (omega arith))
    ∙ ap (take (at - start)) (sym (drop-take start (n - start) text) ∙ ap (λ k. drop start (take k text)) whole)

pub last_line : (text : List ℕ) (at : ℕ) → at ≤ line_end text → length text ≤ at → first_line text ≡ text
last_line text at on done = take_all (line_end text) text (omega (arith, on, done))

-- the lines of a text are its first line and those after it
pub first_and_rest : (text : List ℕ) → 0 < length text → lines_of text ≡ first_line text ∷ lines_of (drop (min (line_end text + 1) (length text)) text)
first_and_rest text some = grind (arith, common_steps, lines_of-cut, take_all, drop-length, lines_of-last)
