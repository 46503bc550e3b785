use Rattle.shm_text.proofs.Names.{◌≡◌, ◌<◌, ◌*◌, ◌^◌, take, true, All, is_digit, digits_value}
use Rattle.shm_text.proofs.number.few_digits.Given as goal

-- the bytes so far are digits, and the number is what they spell
abbrev pub invariant-loop-byte : goal.invariant-loop-byte
invariant-loop-byte l = let front = take l.byte-index l.word in record {
  digits : All (λ c. is_digit c l.fn.radix ≡ true) front;
  value : l.value ≡ digits_value l.fn.radix front;
  small : l.value < 2 ^ (4 * l.byte-index);
}
