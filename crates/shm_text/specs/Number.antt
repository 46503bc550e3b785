-- Numbers of a script.
use Rattle.std.specs.Prelude.{ℕ, Bool, ◌^◌, ◌==◌, ◌&&◌, not, List, length, drop, Option, Some, None, nat_lt, slice_index, if◌then◌else◌}
use Rattle.std.specs.Char.{is_digit}
use Rattle.std.specs.List.{list_all}
use Rattle.std.specs.Str.Parse.{digits_value}
use Rattle.shm_text.specs.declared.number.Number.{Number}
use Rattle.shm_text.specs.declared.number.Number.TheVariants.{Fits, TooLarge}

-- a number as the program keeps it
abbrev pub number_from : ℕ → Number
number_from n = if nat_lt n (2 ^ 64) then Fits n else TooLarge

-- the word is one or more digits of a base
abbrev pub is_numeral : ℕ → List ℕ → Bool
is_numeral radix ds = not (length ds == 0) && list_all (λ c. is_digit c radix) ds

abbrev pub numeral : ℕ → List ℕ → Option Number
numeral radix ds = if is_numeral radix ds then Some (number_from (digits_value radix ds)) else None

-- decimal digits, or `0x` and hexadecimal digits of either case
abbrev pub number_of : List ℕ → Option Number
number_of w = if slice_index w 0 == 48 && slice_index w 1 == 120 then numeral 16 (drop 2 w) else numeral 10 w

abbrev pub fitting : Option Number → Option ℕ
fitting None = None
fitting (Some (Fits n)) = Some n
fitting (Some TooLarge) = None

-- decimal digits that spell a number of 64 bits
abbrev pub decimal_of : List ℕ → Option ℕ
decimal_of w = fitting (numeral 10 w)
