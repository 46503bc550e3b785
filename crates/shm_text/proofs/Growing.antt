-- How a digit enlarges a number; and a word that consists of digits.
use Rattle.shm_text.proofs.Names.{common_steps, arith, ◌≡◌, ◌≤◌, ◌<◌, ◌+◌, ◌*◌, ◌^◌, ◌∙◌, ap, refl, subst, ℕ, List, true, take, length, pow-add, All, list_all, is_digit, take_all, list_all-from_AllPass, pow_mono, mul-le-mul, number_from, Fits}
use Rattle.std.proofs.lemmas.Bool.{lt-ltb}

-- one more digit, of a base of at most 16
grown_by : (v r d p : ℕ) → v < p → r ≤ 16 → d < r → v * r + d < p * 16
grown_by v r d p small low digit = grind (arith, common_steps, mul-le-mul)

pub grown : (v r d i : ℕ) → v < 2 ^ (4 * i) → r ≤ 16 → d < r → v * r + d < 2 ^ (4 * (i + 1))
grown v r d i small low digit =
    let more : 2 ^ (4 * (i + 1)) ≡ 2 ^ (4 * i) * 16 = ap (λ n. 2 ^ n) (omega arith) ∙ pow-add 2 (4 * i) 4 in
    rw more (grown_by v r d (2 ^ (4 * i)) small low digit)

-- a number of at most 15 digits fits 64 bits
pub fits : (v i : ℕ) → v < 2 ^ (4 * i) → i ≤ 15 → v < 2 ^ 64
fits v i small few = grind (arith, common_steps, pow_mono)

-- such a number is kept as it is
pub kept : (n v : ℕ) → v ≡ n → v < 2 ^ 64 → number_from n ≡ Fits v
kept n v is small = rw (← is, lt-ltb v (2 ^ 64) small) refl

-- the first bytes of a word are all of it, and are digits
pub all_digits : (radix i : ℕ) (word : List ℕ) → length word ≤ i → All (λ b. is_digit b radix ≡ true) (take i word) → list_all (λ b. is_digit b radix) word ≡ true
all_digits radix i word whole digits =
    list_all-from_AllPass (λ b. is_digit b radix) word (subst (All (λ b. is_digit b radix ≡ true)) (take_all i word whole) digits)
