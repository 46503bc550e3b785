-- The operands of a line: first whether a word can be read, and then whether its number is in range.
use Rattle.std.specs.Prelude.{ℕ, ◌+◌, ◌-◌, ◌*◌, ◌^◌, Bool, true, false, ◌==◌, ◌&&◌, ◌||◌, nat_le, List, length, drop, count_by, Option, Some, None, Result, Ok, Err, slice_index, codes, if◌then◌else◌}
use Rattle.std.specs.List.{slice_split}
use Rattle.std.specs.Str.{bytes_eq}
use Rattle.std.specs.Option.{ok_or}
use Rattle.hex.specs.Hex.{decode_of}
use Rattle.hex.specs.declared.error.FromHexError.{FromHexError}
use Rattle.shm_base.specs.Bounds.{within}
use Rattle.shm_base.specs.declared.flags.GetFlags.{GetFlags}
use Rattle.shm_base.specs.declared.flags.AtFlags.{AtFlags}
use Rattle.shm_text.specs.declared.fault.FaultKind.{FaultKind}
use Rattle.shm_text.specs.declared.fault.FaultKind.TheVariants.{BadLine, BadNumber}
use Rattle.shm_text.specs.declared.number.Number.{Number}
use Rattle.shm_text.specs.declared.number.Number.TheVariants.{Fits, TooLarge}
use Rattle.shm_text.specs.declared.script.LineId.{LineId}
use Rattle.shm_text.specs.declared.script.LineId.TheVariants as ids
use Rattle.shm_text.specs.declared.script.LineAddr.{LineAddr}
use Rattle.shm_text.specs.declared.script.LineAddr.TheVariants as addrs
use Rattle.shm_text.specs.declared.operand.IdWord.{IdWord}
use Rattle.shm_text.specs.declared.operand.IdWord.TheVariants as id_words
use Rattle.shm_text.specs.declared.operand.AddrWord.{AddrWord}
use Rattle.shm_text.specs.declared.operand.AddrWord.TheVariants as addr_words
use Rattle.shm_text.specs.Number.{number_of}
use Rattle.shm_base.specs.declared.bounds.TheConstants.{LAST_ID}

infixl 10 ◌>>=◌
abbrev pub ◌>>=◌ : {E A B : Type 0} → Result A E → (A → Result B E) → Result B E
(Ok x) >>= f = f x
(Err e) >>= f = Err e

-- a word that has to be a number
abbrev pub required_number : List ℕ → Result Number FaultKind
required_number w = ok_or (number_of w) BadLine

-- a number within its range
abbrev pub ranged : ℕ → ℕ → Number → Result ℕ FaultKind
ranged low high (Fits n) = if nat_le low n && nat_le n high then Ok n else Err BadNumber
ranged low high TooLarge = Err BadNumber

-- a number of 64 bits
abbrev pub within_64_bits : Number → Result ℕ FaultKind
within_64_bits n = ranged 0 (2 ^ 64 - 1) n

-- a key: `private`, which is 0, or a number
abbrev pub key_word : List ℕ → Result Number FaultKind
key_word w = if bytes_eq w (codes "private") then Ok (Fits 0) else required_number w

-- the variable of a word's first letter
abbrev pub letter_of : List ℕ → Option ℕ
letter_of w = if within 97 122 (slice_index w 0) then Some (slice_index w 0) else None

-- an identifier: one letter, or a number
abbrev pub id_by : List ℕ → Option ℕ → Result IdWord FaultKind
id_by w (Some v) = if length w == 1 then Ok (id_words.Letter v) else Err BadLine
id_by w None = required_number w >>= λ n. Ok (id_words.Literal n)

abbrev pub id_word : List ℕ → Result IdWord FaultKind
id_word w = id_by w (letter_of w)

abbrev pub ranged_id : IdWord → Result LineId FaultKind
ranged_id (id_words.Literal n) = ranged 0 LAST_ID n >>= λ n. Ok (ids.Number n)
ranged_id (id_words.Letter v) = Ok (ids.Var v)

-- an address: `null`, one letter, a letter and a number after `+`, or a number
abbrev pub addr_by : List ℕ → Option ℕ → Result AddrWord FaultKind
addr_by w (Some v) =
    if length w == 1 then Ok (addr_words.Letter v) else
    if slice_index w 1 == 43 then (required_number (drop 2 w) >>= λ n. Ok (addr_words.LetterPlus v n)) else
    Err BadLine
addr_by w None = required_number w >>= λ n. Ok (addr_words.Literal n)

abbrev pub addr_word : List ℕ → Result AddrWord FaultKind
addr_word w = if bytes_eq w (codes "null") then Ok (addr_words.Literal (Fits 0)) else addr_by w (letter_of w)

abbrev pub ranged_addr : AddrWord → Result LineAddr FaultKind
ranged_addr (addr_words.Literal n) = within_64_bits n >>= λ n. Ok (addrs.Number n)
ranged_addr (addr_words.Letter v) = Ok (addrs.Var v)
ranged_addr (addr_words.LetterPlus v n) = within_64_bits n >>= λ n. Ok (addrs.Sum v n)

-- three octal digits
abbrev pub is_mode : List ℕ → Bool
is_mode w = (length w == 3) && within 48 55 (slice_index w 0) && within 48 55 (slice_index w 1) && within 48 55 (slice_index w 2)

abbrev pub mode_from : List ℕ → ℕ
mode_from w = 64 * (slice_index w 0 - 48) + 8 * (slice_index w 1 - 48) + (slice_index w 2 - 48)

abbrev pub mode_word : List ℕ → Result ℕ FaultKind
mode_word w = if is_mode w then Ok (mode_from w) else Err BadLine

-- whether pages become writable
abbrev pub protection_word : List ℕ → Result Bool FaultKind
protection_word w =
    if bytes_eq w (codes "rw") then Ok true else
    if bytes_eq w (codes "ro") then Ok false else
    Err BadLine

-- the flags after a mode: each flag of shmget at most once, in either order
abbrev pub get_flags_word : List ℕ → Result GetFlags FaultKind
get_flags_word w =
    if length w == 0 then Ok (record { 0 = 0 }) else
    if bytes_eq w (codes ",creat") then Ok (record { 0 = 512 }) else
    if bytes_eq w (codes ",excl") then Ok (record { 0 = 1024 }) else
    if bytes_eq w (codes ",creat,excl") || bytes_eq w (codes ",excl,creat") then Ok (record { 0 = 1536 }) else
    Err BadLine

-- the names in a comma-separated list
abbrev pub names_of : List ℕ → List (List ℕ)
names_of w = slice_split (λ b. b == 44) w

-- how often a comma-separated list has a name
abbrev pub times : List ℕ → List ℕ → ℕ
times w name = count_by (λ n. bytes_eq n name) (names_of w)

-- the flags of a list with these counts of each name and `all` names together: each name at most once, and no other name
abbrev pub flags_by : ℕ → ℕ → ℕ → ℕ → Result AtFlags FaultKind
flags_by rdonly rnd remap all =
    if nat_le rdonly 1 && nat_le rnd 1 && nat_le remap 1 && (rdonly + rnd + remap == all)
    then Ok (record { 0 = 4096 * rdonly + 8192 * rnd + 16384 * remap })
    else Err BadLine

-- the flags of shmat: `-`, or a list of names
abbrev pub at_flags_word : List ℕ → Result AtFlags FaultKind
at_flags_word w =
    if bytes_eq w (codes "-") then Ok (record { 0 = 0 }) else
    flags_by (times w (codes "rdonly")) (times w (codes "rnd")) (times w (codes "remap")) (length (names_of w))

-- bytes in hexadecimal digits, two digits each
abbrev pub bytes_by : Result (List ℕ) FromHexError → Result (List ℕ) FaultKind
bytes_by (Ok bytes) = Ok bytes
bytes_by (Err e) = Err BadLine

-- 1 to `most` bytes
abbrev pub bytes_word : ℕ → List ℕ → Result (List ℕ) FaultKind
bytes_word most w = if within 2 (2 * most) (length w) then bytes_by (decode_of w) else Err BadLine

-- the bytes of a store or an exchange
abbrev pub chunk_word : List ℕ → Result (List ℕ) FaultKind
chunk_word w = bytes_word 64 w

-- an operand of a compare and exchange
abbrev pub short_word : List ℕ → Result (List ℕ) FaultKind
short_word w = bytes_word 16 w
