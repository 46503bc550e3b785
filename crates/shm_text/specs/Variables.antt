-- The variables of a process, and the call that a line makes with them.
use Rattle.std.specs.Prelude.{ℕ, ◌+◌, ◌-◌, ◌%◌, ◌^◌, ◌++◌, ℤ, pos, negsuc, nat_le, if◌then◌else◌, List, length, Option, Some, None, get_or, set, replicate}
use Rattle.std.specs.Int.{w64, from_le_bytes}
use Rattle.shm_base.specs.declared.call.Call.TheVariants.{Shmget, Shmat, Shmdt, Stat, Set, Rmid, Lock, Unlock, Load, Store, Xadd, Exchange, CompareExchange, Fork, Exec, Exit, Swapoff, Munmap, Mprotect, Setuid}
use Rattle.shm_base.specs.Calls.{ProcessCall}
use Rattle.shm_base.specs.declared.call.Reply.{Reply}
use Rattle.shm_base.specs.declared.call.Reply.TheVariants.{Id, Addr, Bytes, Number}
use Rattle.shm_text.specs.declared.script.LineId.{LineId}
use Rattle.shm_text.specs.declared.script.LineId.TheVariants as ids
use Rattle.shm_text.specs.declared.script.LineAddr.{LineAddr}
use Rattle.shm_text.specs.declared.script.LineAddr.TheVariants as addrs
use Rattle.shm_text.specs.Form.{LineCall}
use Rattle.shm_base.specs.declared.bounds.TheConstants.{LAST_ID}

-- a variable is a number, or None, which scripts see as -1
abbrev pub no_values : List (Option ℕ)
no_values = replicate 26 (Some 0)

abbrev pub value_at : List (Option ℕ) → ℕ → Option ℕ
value_at values letter = get_or values (letter - 97) (Some 0)

-- an identifier outside 0 to 2147483647 is -1, which was never issued
abbrev pub id_from : Option ℕ → ℤ
id_from None = negsuc 0
id_from (Some n) = if nat_le n LAST_ID then pos n else negsuc 0

abbrev pub id_of : List (Option ℕ) → LineId → ℤ
id_of values (ids.Number n) = pos n
id_of values (ids.Var v) = id_from (value_at values v)

-- -1 as an address is the last address
abbrev pub addr_from : Option ℕ → ℕ
addr_from None = 2 ^ 64 - 1
addr_from (Some n) = n

-- a sum is taken modulo 2^64
abbrev pub addr_of : List (Option ℕ) → LineAddr → ℕ
addr_of values (addrs.Number n) = n
addr_of values (addrs.Var v) = addr_from (value_at values v)
addr_of values (addrs.Sum v n) = (addr_from (value_at values v) + n) % 2 ^ 64

-- the call that a line makes with these variables
abbrev pub call_of : List (Option ℕ) → LineCall → ProcessCall
call_of values (Shmget key size mode flags) = Shmget key size mode flags
call_of values (Shmat id addr flags) = Shmat (id_of values id) (addr_of values addr) flags
call_of values (Shmdt addr) = Shmdt (addr_of values addr)
call_of values (Stat id) = Stat (id_of values id)
call_of values (Set id uid gid mode) = Set (id_of values id) uid gid mode
call_of values (Rmid id) = Rmid (id_of values id)
call_of values (Lock id) = Lock (id_of values id)
call_of values (Unlock id) = Unlock (id_of values id)
call_of values (Load addr len) = Load (addr_of values addr) len
call_of values (Store bytes addr) = Store bytes (addr_of values addr)
call_of values (Xadd addr add) = Xadd (addr_of values addr) add
call_of values (Exchange bytes addr) = Exchange bytes (addr_of values addr)
call_of values (CompareExchange expected desired addr) = CompareExchange expected desired (addr_of values addr)
call_of values (Fork child) = Fork child
call_of values Exec = Exec
call_of values Exit = Exit
call_of values (Swapoff area) = Swapoff area
call_of values (Munmap addr len) = Munmap (addr_of values addr) len
call_of values (Mprotect addr len writable) = Mprotect (addr_of values addr) len writable
call_of values (Setuid uid gid) = Setuid uid gid

abbrev pub id_number : ℤ → Option ℕ
id_number (pos n) = Some n
id_number (negsuc n) = None

-- at most eight bytes as a number, the least significant first
abbrev pub bytes_number : List ℕ → Option ℕ
bytes_number bytes = if nat_le (length bytes) 8 then Some (from_le_bytes w64 (bytes ++ replicate (8 - length bytes) 0)) else None

-- the number that a variable takes from a reply
abbrev pub reply_number : Reply → Option ℕ
reply_number (Id id) = id_number id
reply_number (Addr addr) = Some addr
reply_number (Bytes bytes) = bytes_number bytes
reply_number (Number n) = Some n
reply_number _ = None

-- a call that runs out of memory has no reply
abbrev pub answer_in : Option Reply → Option ℕ
answer_in None = None
answer_in (Some r) = reply_number r

-- the variables after the answer of a line, which may have a variable
abbrev pub values_after : List (Option ℕ) → Option ℕ → Option Reply → List (Option ℕ)
values_after values None reply = values
values_after values (Some v) reply = set values (v - 97) (answer_in reply)
