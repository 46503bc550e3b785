-- The calls of a line: a word, and the operands that follow it. Each form first reads its words, then tests how many bytes they
-- have, and then their ranges. So a bad line is reported before a wrong number of bytes, and that before a bad number.
use Rattle.std.specs.Prelude.{ℕ, ◌+◌, Bool, true, false, ◌==◌, ◌&&◌, not, ◌||◌, List, length, nat_lt, take, drop, Option, Some, None, Result, Ok, Err, codes, if◌then◌else◌}
use Rattle.std.specs.Option.{ok_or}
use Rattle.std.specs.Str.{bytes_eq}
use Rattle.shm_text.specs.declared.fault.FaultKind.{FaultKind}
use Rattle.shm_text.specs.declared.fault.FaultKind.TheVariants.{BadLine, LengthsDiffer, TooWide}
use Rattle.shm_text.specs.declared.calls.Verb.{Verb}
use Rattle.shm_text.specs.declared.calls.Verb.TheVariants as verbs
use Rattle.shm_text.specs.declared.script.LineId.{LineId}
use Rattle.shm_text.specs.declared.script.LineAddr.{LineAddr}
use Rattle.shm_text.specs.Form.{LineCall}
use Rattle.shm_base.specs.declared.call.Call.TheVariants.{Shmget, Shmat, Shmdt, Stat, Set, Rmid, Lock, Unlock, Load, Store, Xadd, Exchange, CompareExchange, Fork, Exec, Exit, Swapoff, Munmap, Mprotect, Setuid}
use Rattle.shm_text.specs.Operand.{◌>>=◌, required_number, ranged, within_64_bits, key_word, id_word, ranged_id, addr_word, ranged_addr, mode_word, protection_word, get_flags_word, at_flags_word, chunk_word, short_word}
use Rattle.shm_text.specs.Words.{word_at}
use Rattle.shm_base.specs.declared.bounds.TheConstants.{LAST_PID}

-- the words of calls that name no segment
unfoldable pub process_verb_of : List ℕ → Option Verb
process_verb_of w =
    if bytes_eq w (codes "fork") then Some verbs.Fork else
    if bytes_eq w (codes "exec") then Some verbs.Exec else
    if bytes_eq w (codes "exit") then Some verbs.Exit else
    if bytes_eq w (codes "setuid") then Some verbs.Setuid else
    if bytes_eq w (codes "swapoff") then Some verbs.Swapoff else
    None

-- the words of shmctl(2), or those above
unfoldable pub control_verb_of : List ℕ → Option Verb
control_verb_of w =
    if bytes_eq w (codes "stat") then Some verbs.Stat else
    if bytes_eq w (codes "set") then Some verbs.Set else
    if bytes_eq w (codes "rmid") then Some verbs.Rmid else
    if bytes_eq w (codes "lock") then Some verbs.Lock else
    if bytes_eq w (codes "unlock") then Some verbs.Unlock else
    process_verb_of w

-- the words of calls that unmap or protect, or those above
unfoldable pub mapping_verb_of : List ℕ → Option Verb
mapping_verb_of w =
    if bytes_eq w (codes "shmdt") then Some verbs.Shmdt else
    if bytes_eq w (codes "munmap") then Some verbs.Munmap else
    if bytes_eq w (codes "mprotect") then Some verbs.Mprotect else
    control_verb_of w

-- the words of accesses, or those above
unfoldable pub access_verb_of : List ℕ → Option Verb
access_verb_of w =
    if bytes_eq w (codes "load") then Some verbs.Load else
    if bytes_eq w (codes "store") then Some verbs.Store else
    if bytes_eq w (codes "swap") then Some verbs.Swap else
    if bytes_eq w (codes "cas") then Some verbs.Cas else
    mapping_verb_of w

-- the word of a call
unfoldable pub verb_of : List ℕ → Option Verb
verb_of w =
    if bytes_eq w (codes "shmget") then Some verbs.Shmget else
    if bytes_eq w (codes "shmat") then Some verbs.Shmat else
    if bytes_eq w (codes "xadd") then Some verbs.Xadd else
    access_verb_of w

-- how many operands follow it
abbrev pub operands : Verb → ℕ
operands verbs.Shmget = 3
operands verbs.Shmat = 3
operands verbs.Xadd = 2
operands verbs.Shmdt = 1
operands verbs.Load = 2
operands verbs.Store = 2
operands verbs.Swap = 2
operands verbs.Cas = 3
operands verbs.Stat = 1
operands verbs.Set = 4
operands verbs.Rmid = 1
operands verbs.Lock = 1
operands verbs.Unlock = 1
operands verbs.Fork = 1
operands verbs.Exec = 0
operands verbs.Exit = 0
operands verbs.Swapoff = 1
operands verbs.Munmap = 2
operands verbs.Mprotect = 3
operands verbs.Setuid = 2

-- whether a variable and `=` may precede it
abbrev pub may_be_taken : Verb → Bool
may_be_taken verbs.Shmget = true
may_be_taken verbs.Shmat = true
may_be_taken verbs.Xadd = true
may_be_taken verbs.Swap = true
may_be_taken verbs.Cas = true
may_be_taken _ = false

-- THE FORMS: the first operand is at index i

abbrev pub id_operand : List (List ℕ) → ℕ → Result LineId FaultKind
id_operand ws i = id_word (word_at ws i) >>= ranged_id

abbrev pub addr_operand : List (List ℕ) → ℕ → Result LineAddr FaultKind
addr_operand ws i = addr_word (word_at ws i) >>= ranged_addr

unfoldable pub shmget_call : List (List ℕ) → ℕ → Result LineCall FaultKind
shmget_call ws i = do
  key ← key_word (word_at ws i)
  size ← required_number (word_at ws (i + 1))
  mode ← mode_word (take 3 (word_at ws (i + 2)))
  flags ← get_flags_word (drop 3 (word_at ws (i + 2)))
  key ← ranged 0 4294967295 key
  size ← within_64_bits size
  Ok (Shmget key size mode flags)

unfoldable pub shmat_call : List (List ℕ) → ℕ → Result LineCall FaultKind
shmat_call ws i = do
  id ← id_word (word_at ws i)
  addr ← addr_word (word_at ws (i + 1))
  flags ← at_flags_word (word_at ws (i + 2))
  id ← ranged_id id
  addr ← ranged_addr addr
  Ok (Shmat id addr flags)

unfoldable pub xadd_call : List (List ℕ) → ℕ → Result LineCall FaultKind
xadd_call ws i = do
  addr ← addr_word (word_at ws i)
  add ← required_number (word_at ws (i + 1))
  addr ← ranged_addr addr
  add ← within_64_bits add
  Ok (Xadd addr add)

unfoldable pub load_call : List (List ℕ) → ℕ → Result LineCall FaultKind
load_call ws i = do
  addr ← addr_word (word_at ws i)
  len ← required_number (word_at ws (i + 1))
  addr ← ranged_addr addr
  len ← ranged 1 64 len
  Ok (Load addr len)

unfoldable pub store_call : List (List ℕ) → ℕ → Result LineCall FaultKind
store_call ws i = do
  addr ← addr_word (word_at ws i)
  bytes ← chunk_word (word_at ws (i + 1))
  addr ← ranged_addr addr
  Ok (Store bytes addr)

-- a variable takes at most eight bytes
abbrev pub within_variable : Bool → List ℕ → Result (Unit {0}) FaultKind
within_variable taken bytes = if taken && nat_lt 8 (length bytes) then Err TooWide else Ok tt

unfoldable pub swap_call : Bool → List (List ℕ) → ℕ → Result LineCall FaultKind
swap_call taken ws i = do
  addr ← addr_word (word_at ws i)
  bytes ← chunk_word (word_at ws (i + 1))
  fits ← within_variable taken bytes
  addr ← ranged_addr addr
  Ok (Exchange bytes addr)

-- the desired bytes have to be as many as the expected ones
abbrev pub as_many : List ℕ → List ℕ → Result (Unit {0}) FaultKind
as_many expected desired = if length expected == length desired then Ok tt else Err LengthsDiffer

unfoldable pub cas_call : Bool → List (List ℕ) → ℕ → Result LineCall FaultKind
cas_call taken ws i = do
  addr ← addr_word (word_at ws i)
  expected ← short_word (word_at ws (i + 1))
  desired ← short_word (word_at ws (i + 2))
  same ← as_many expected desired
  fits ← within_variable taken desired
  addr ← ranged_addr addr
  Ok (CompareExchange expected desired addr)

unfoldable pub munmap_call : List (List ℕ) → ℕ → Result LineCall FaultKind
munmap_call ws i = do
  addr ← addr_word (word_at ws i)
  len ← required_number (word_at ws (i + 1))
  addr ← ranged_addr addr
  len ← within_64_bits len
  Ok (Munmap addr len)

unfoldable pub mprotect_call : List (List ℕ) → ℕ → Result LineCall FaultKind
mprotect_call ws i = do
  addr ← addr_word (word_at ws i)
  len ← required_number (word_at ws (i + 1))
  writable ← protection_word (word_at ws (i + 2))
  addr ← ranged_addr addr
  len ← within_64_bits len
  Ok (Mprotect addr len writable)

unfoldable pub set_call : List (List ℕ) → ℕ → Result LineCall FaultKind
set_call ws i = do
  id ← id_word (word_at ws i)
  uid ← required_number (word_at ws (i + 1))
  gid ← required_number (word_at ws (i + 2))
  mode ← mode_word (word_at ws (i + 3))
  id ← ranged_id id
  uid ← ranged 0 4294967295 uid
  gid ← ranged 0 4294967295 gid
  Ok (Set id uid gid mode)

unfoldable pub fork_call : List (List ℕ) → ℕ → Result LineCall FaultKind
fork_call ws i = do
  child ← required_number (word_at ws i)
  child ← ranged 1 LAST_PID child
  Ok (Fork child)

unfoldable pub setuid_call : List (List ℕ) → ℕ → Result LineCall FaultKind
setuid_call ws i = do
  uid ← required_number (word_at ws i)
  gid ← required_number (word_at ws (i + 1))
  uid ← ranged 0 4294967295 uid
  gid ← ranged 0 4294967295 gid
  Ok (Setuid uid gid)

unfoldable pub swapoff_call : List (List ℕ) → ℕ → Result LineCall FaultKind
swapoff_call ws i = do
  area ← required_number (word_at ws i)
  area ← ranged 0 7 area
  Ok (Swapoff area)

-- `taken` says that a variable takes the answer
abbrev pub call_by : Verb → Bool → List (List ℕ) → ℕ → Result LineCall FaultKind
call_by verbs.Shmget taken ws i = shmget_call ws i
call_by verbs.Shmat taken ws i = shmat_call ws i
call_by verbs.Xadd taken ws i = xadd_call ws i
call_by verbs.Shmdt taken ws i = addr_operand ws i >>= λ addr. Ok (Shmdt addr)
call_by verbs.Load taken ws i = load_call ws i
call_by verbs.Store taken ws i = store_call ws i
call_by verbs.Swap taken ws i = swap_call taken ws i
call_by verbs.Cas taken ws i = cas_call taken ws i
call_by verbs.Stat taken ws i = id_operand ws i >>= λ id. Ok (Stat id)
call_by verbs.Set taken ws i = set_call ws i
call_by verbs.Rmid taken ws i = id_operand ws i >>= λ id. Ok (Rmid id)
call_by verbs.Lock taken ws i = id_operand ws i >>= λ id. Ok (Lock id)
call_by verbs.Unlock taken ws i = id_operand ws i >>= λ id. Ok (Unlock id)
call_by verbs.Fork taken ws i = fork_call ws i
call_by verbs.Exec taken ws i = Ok Exec
call_by verbs.Exit taken ws i = Ok Exit
call_by verbs.Swapoff taken ws i = swapoff_call ws i
call_by verbs.Munmap taken ws i = munmap_call ws i
call_by verbs.Mprotect taken ws i = mprotect_call ws i
call_by verbs.Setuid taken ws i = setuid_call ws i

-- the index of a call's word: it follows the pid, and also a variable and `=` if one takes the answer
abbrev pub place_of : Bool → ℕ
place_of false = 1
place_of true = 3

-- the call of a word whose operands end the line
abbrev pub call_with : List (List ℕ) → Bool → Verb → Result LineCall FaultKind
call_with ws taken verb =
    if (not taken || may_be_taken verb) && (length ws == place_of taken + 1 + operands verb)
    then call_by verb taken ws (place_of taken + 1)
    else Err BadLine

-- the call of a line; `taken` says that a variable takes its answer
unfoldable pub call_words : List (List ℕ) → Bool → Result LineCall FaultKind
call_words ws taken = ok_or (verb_of (word_at ws (place_of taken))) BadLine >>= call_with ws taken
