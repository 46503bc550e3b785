-- The forms of a script's lines: the values that a command line may hold.
use Rattle.std.specs.Prelude.{ℕ, Bool, true, false, ◌&&◌, ◌==◌, nat_le, nat_lt, bit_and, is_some, length, Option}
use Rattle.shm_base.specs.Bounds.{within}
use Rattle.shm_base.specs.declared.flags.GetFlags.{GetFlags}
use Rattle.shm_base.specs.declared.flags.AtFlags.{AtFlags}
use Rattle.shm_text.specs.declared.script.LineId.{LineId}
use Rattle.shm_text.specs.declared.script.LineId.TheVariants as ids
use Rattle.shm_text.specs.declared.script.LineAddr.{LineAddr}
use Rattle.shm_base.specs.declared.call.Call.{Call}
use Rattle.shm_base.specs.declared.call.Call.TheVariants.{Shmget, Shmat, Shmdt, Stat, Set, Rmid, Lock, Unlock, Load, Store, Xadd, Exchange, CompareExchange, Fork, Exec, Exit, Swapoff, Munmap, Mprotect, Setuid}
use Rattle.shm_base.specs.declared.bounds.TheConstants.{LAST_ID, LAST_PID, MODES}

-- a line's call: an identifier or an address may be a variable
abbrev pub LineCall : Type 0
LineCall = Call LineId LineAddr

-- a command line
pub record CommandView : Type 0 where
  pub pid : ℕ
  pub var : Option ℕ
  pub call : LineCall

-- a pid
abbrev pub is_pid : ℕ → Bool
is_pid pid = within 1 LAST_PID pid

-- an identifier that a script may name
abbrev pub is_id : LineId → Bool
is_id (ids.Number n) = nat_le n LAST_ID
is_id (ids.Var v) = true

-- it has only the flags of shmget
abbrev pub is_get_flags : GetFlags → Bool
is_get_flags flags = bit_and flags.0 1536 == flags.0

-- it has only the flags of shmat
abbrev pub is_at_flags : AtFlags → Bool
is_at_flags flags = bit_and flags.0 28672 == flags.0

-- the values that the words of each call may have
abbrev pub is_call : LineCall → Bool
is_call (Shmget key size mode flags) = nat_lt mode MODES && is_get_flags flags
is_call (Shmat id addr flags) = is_id id && is_at_flags flags
is_call (Shmdt addr) = true
is_call (Stat id) = is_id id
is_call (Set id uid gid mode) = is_id id && nat_lt mode MODES
is_call (Rmid id) = is_id id
is_call (Lock id) = is_id id
is_call (Unlock id) = is_id id
is_call (Load addr len) = true
is_call (Store bytes addr) = true
is_call (Xadd addr add) = true
is_call (Exchange bytes addr) = true
is_call (CompareExchange expected desired addr) = length expected == length desired
is_call (Fork child) = is_pid child
is_call Exec = true
is_call Exit = true
is_call (Swapoff area) = nat_le area 7
is_call (Munmap addr len) = true
is_call (Mprotect addr len writable) = true
is_call (Setuid uid gid) = true

-- the calls whose answer a variable may take: a number, or at most eight bytes
abbrev pub has_answer : LineCall → Bool
has_answer (Shmget key size mode flags) = true
has_answer (Shmat id addr flags) = true
has_answer (Xadd addr add) = true
has_answer (Exchange bytes addr) = nat_le (length bytes) 8
has_answer (CompareExchange expected desired addr) = nat_le (length desired) 8
has_answer _ = false

-- only a call that has an answer may follow a variable
abbrev pub is_answer_taken : Bool → LineCall → Bool
is_answer_taken false call = true
is_answer_taken true call = has_answer call

abbrev pub has_form : ℕ → Option ℕ → LineCall → Bool
has_form pid var call = is_pid pid && is_answer_taken (is_some var) call && is_call call
