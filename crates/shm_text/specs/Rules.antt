-- The rules of Linux that a word names.
use Rattle.std.specs.Prelude.{ℕ, Bool, ◌+◌, ◌*◌, ◌==◌, nat_le, List, length, Result, Ok, Err, codes, if◌then◌else◌}
use Rattle.std.specs.Str.{bytes_eq}
use Rattle.shm_base.specs.declared.flags.Rules.{Rules}
use Rattle.shm_text.specs.declared.fault.FaultKind.{FaultKind}
use Rattle.shm_text.specs.declared.fault.FaultKind.TheVariants.{BadLine}
use Rattle.shm_text.specs.declared.rules.Named.{Named}
use Rattle.shm_text.specs.Operand.{◌>>=◌, names_of, times}

-- how often a comma-separated list has a name, which is at most once
abbrev pub once : List ℕ → List ℕ → Result ℕ FaultKind
once w name = if nat_le (times w name) 1 then Ok (times w name) else Err BadLine

-- the rules of these bits, if all names were known
abbrev pub rules_by : Bool → ℕ → Result Rules FaultKind
rules_by are_known bits = if are_known then Ok (record { 0 = bits }) else Err BadLine

-- the first rules, and the last ones, in a comma-separated list: each name at most once
unfoldable pub first_rules : List ℕ → Result Named FaultKind
first_rules w = do
  removed ← once w (codes "removed_is_invalid")
  execute ← once w (codes "execute_is_asked")
  fork ← once w (codes "fork_marks")
  rest ← once w (codes "rest_is_attached")
  end ← once w (codes "end_is_enomem")
  low ← once w (codes "low_is_eperm")
  Ok (record {
    count = removed + execute + fork + rest + end + low;
    bits = removed + 2 * execute + 4 * fork + 8 * rest + 16 * end + 32 * low;
  })

unfoldable pub last_rules : List ℕ → Result Named FaultKind
last_rules w = do
  user ← once w (codes "no_last_user")
  pieces ← once w (codes "pieces_are_enomem")
  locks ← once w (codes "locks_by_user")
  exec ← once w (codes "exec_is_asked")
  huge ← once w (codes "huge_is_refused")
  Ok (record {
    count = user + pieces + locks + exec + huge;
    bits = 64 * user + 128 * pieces + 256 * locks + 512 * exec + 1024 * huge;
  })

-- all rules in a comma-separated list: each name at most once, and no other name
unfoldable pub named_rules : List ℕ → Result Rules FaultKind
named_rules w = do
  first ← first_rules w
  last ← last_rules w
  rules_by (length (names_of w) == first.count + last.count) (first.bits + last.bits)

-- `linux`, which is every rule, or a list of rules
abbrev pub rules_word : List ℕ → Result Rules FaultKind
rules_word w = if bytes_eq w (codes "linux") then Ok (record { 0 = 2047 }) else named_rules w
