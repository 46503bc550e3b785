use Rattle.shm_text.proofs.Names.{common_steps, rules, arith, ◌≡◌, ◌<◌, ◌+◌, ◌*◌, ◌^◌, sym, length, get_or, true, is_digit, digit_value, digits_value_more, take_all, All-more}
use Rattle.std.proofs.lemmas.Bool.{lt-ltb}
use Rattle.shm_text.proofs.Growing.{grown, fits, kept, all_digits}
use Rattle.shm_text.proofs.number.few_digits.Goals as goal
use Rattle.shm_text.proofs.number.few_digits.Goals.{In_ok-digit}

-- the digit, and the number with it
small_digit : (c : In_ok-digit) → digit_value (get_or c.args.word.now c.loop-byte.byte-index 0) < c.args.radix
small_digit c = search rules

next_small : (c : In_ok-digit) → c.loop-byte.value * c.args.radix + c.in_ok-digit.digit < 2 ^ (4 * (c.loop-byte.byte-index + 1))
next_small c = grind (arith, common_steps, grown, small_digit)

next_fits : (c : In_ok-digit) → c.loop-byte.value * c.args.radix + c.in_ok-digit.digit < 2 ^ 64
next_fits c = fits _ (c.loop-byte.byte-index + 1) (next_small c) (omega (arith, c.requires.few))

pub overflow_mul-value : goal.overflow_mul-value
overflow_mul-value c = omega (arith, next_fits c)

pub overflow_add-value : goal.overflow_add-value
overflow_add-value c = omega (arith, next_fits c)

pub loop-byte-preserved : goal.loop-byte-preserved
loop-byte-preserved c =
    let i = c.loop-byte.byte-index in
    let word = c.args.word.now in
    let radix = c.args.radix in
    let within : i < length word = omega arith in
    let is : c.in_ok-digit.digit ≡ digit_value (get_or word i 0) = search rules in
    record {
      digits = All-more (λ b. is_digit b radix ≡ true) word i 0 within c.loop-byte.invariant.digits (lt-ltb _ _ (small_digit c));
      value = rw (is, c.loop-byte.invariant.value) (sym (digits_value_more radix word i within));
      small = next_small c;
    }

-- all bytes are digits
pub returns : goal.returns
returns c = grind (arith, common_steps, take_all, all_digits, kept)
