-- The printed text of events and replies.
use Rattle.std.specs.Prelude.{ℕ, ◌^◌, ◌-◌, ◌/◌, ◌%◌, ◌+◌, ◌==◌, false, Bool, List, [], ◌∷◌, ◌++◌, codes, bit_and, if◌then◌else◌}
use Rattle.std.specs.Fmt.{decimal, signed_decimal, digits, padded_integral, format_spec}
use Rattle.hex.specs.Hex.{encode_lower}
use Rattle.shm_base.specs.declared.flags.GetFlags.{GetFlags}
use Rattle.shm_base.specs.declared.flags.AtFlags.{AtFlags}
use Rattle.shm_base.specs.declared.flags.Status.{Status}
use Rattle.shm_base.specs.declared.owner.Perm.{Perm}
use Rattle.shm_base.specs.Calls.{ProcessCall}
use Rattle.shm_base.specs.declared.call.Call.TheVariants.{Shmget, Shmat, Shmdt, Stat, Set, Rmid, Lock, Unlock, Load, Store, Xadd, Exchange, CompareExchange, Fork, Exec, Exit, Swapoff, Munmap, Mprotect, Setuid}
use Rattle.shm_base.specs.declared.call.ShmidDs.{ShmidDs}
use Rattle.shm_base.specs.declared.call.Reply.{Reply}
use Rattle.shm_base.specs.declared.call.Reply.TheVariants as replies
use Rattle.shm_base.specs.declared.call.Event.{Event}
use Rattle.shm_base.specs.Codes.{name_of}
use Rattle.shm_base.specs.Step.{wants_creation, is_rdonly, is_rnd, is_remap}

-- `0x` and eight digits
abbrev pub key_text : ℕ → List ℕ
key_text k = codes "0x" ++ padded_integral (format_spec 32 0 4 8 (2 ^ 64 - 1)) false [] (digits 16 false k)

-- `null` for 0, else `0x` and digits without leading zeros
abbrev pub address_text : ℕ → List ℕ
address_text a = if a == 0 then codes "null" else codes "0x" ++ digits 16 false a

-- three octal digits of the low nine bits
abbrev pub mode_text : ℕ → List ℕ
mode_text m = decimal (m / 64 % 8) ++ (decimal (m / 8 % 8) ++ decimal (m % 8))

abbrev pub wants_exclusion : GetFlags → Bool
wants_exclusion flags = bit_and flags.0 1024 == 1024

-- the flags of shmget, each after a comma
abbrev pub get_flags_text : GetFlags → List ℕ
get_flags_text flags =
    (if wants_creation flags then codes ",creat" else []) ++ (if wants_exclusion flags then codes ",excl" else [])

-- the flags of shmat in this order, separated by commas; `-` if there is none
abbrev pub at_flags_text : AtFlags → List ℕ
at_flags_text flags =
    if is_rnd flags then codes "rnd" ++ ((if is_remap flags then codes ",remap" else []) ++ (if is_rdonly flags then codes ",rdonly" else [])) else
    if is_remap flags then codes "remap" ++ (if is_rdonly flags then codes ",rdonly" else []) else
    if is_rdonly flags then codes "rdonly" else
    codes "-"

abbrev pub is_dest : Status → Bool
is_dest status = bit_and status.0 512 == 512

abbrev pub is_locked : Status → Bool
is_locked status = bit_and status.0 1024 == 1024

abbrev pub status_text : Status → List ℕ
status_text status =
    if is_dest status then (if is_locked status then codes "dest,locked" else codes "dest") else
    if is_locked status then codes "locked" else
    codes "-"

abbrev pub protection_text : Bool → List ℕ
protection_text writable = if writable then codes " rw" else codes " ro"

-- an address and a number, or bytes: the operands of an access
abbrev pub at_number_text : ℕ → ℕ → List ℕ
at_number_text addr number = address_text addr ++ (codes " " ++ decimal number)

abbrev pub at_bytes_text : ℕ → List ℕ → List ℕ
at_bytes_text addr bytes = address_text addr ++ (codes " " ++ encode_lower bytes)

-- a call's word and its arguments
abbrev pub call_text : ProcessCall → List ℕ
call_text (Shmget key size mode flags) = codes "shmget " ++ (key_text key ++ (codes " " ++ (decimal size ++ (codes " " ++ (mode_text mode ++ get_flags_text flags)))))
call_text (Shmat id addr flags) = codes "shmat " ++ (signed_decimal id ++ (codes " " ++ (address_text addr ++ (codes " " ++ at_flags_text flags))))
call_text (Shmdt addr) = codes "shmdt " ++ address_text addr
call_text (Stat id) = codes "stat " ++ signed_decimal id
call_text (Set id uid gid mode) = codes "set " ++ (signed_decimal id ++ (codes " " ++ (decimal uid ++ (codes " " ++ (decimal gid ++ (codes " " ++ mode_text mode))))))
call_text (Rmid id) = codes "rmid " ++ signed_decimal id
call_text (Lock id) = codes "lock " ++ signed_decimal id
call_text (Unlock id) = codes "unlock " ++ signed_decimal id
call_text (Load addr len) = codes "load " ++ at_number_text addr len
call_text (Store bytes addr) = codes "store " ++ at_bytes_text addr bytes
call_text (Xadd addr add) = codes "xadd " ++ at_number_text addr add
call_text (Exchange bytes addr) = codes "swap " ++ at_bytes_text addr bytes
call_text (CompareExchange expected desired addr) = codes "cas " ++ (address_text addr ++ (codes " " ++ (encode_lower expected ++ (codes " " ++ encode_lower desired))))
call_text (Fork child) = codes "fork " ++ decimal child
call_text Exec = codes "exec"
call_text Exit = codes "exit"
call_text (Swapoff area) = codes "swapoff " ++ decimal area
call_text (Munmap addr len) = codes "munmap " ++ at_number_text addr len
call_text (Mprotect addr len writable) = codes "mprotect " ++ (address_text addr ++ (codes " " ++ (decimal len ++ protection_text writable)))
call_text (Setuid uid gid) = codes "setuid " ++ (decimal uid ++ (codes " " ++ decimal gid))

-- the ids and the mode of a segment
abbrev pub perm_text : Perm → List ℕ
perm_text p = codes "uid=" ++ (decimal p.uid ++ (codes " gid=" ++ (decimal p.gid ++ (codes " cuid=" ++ (decimal p.cuid ++ (codes " cgid=" ++ (decimal p.cgid ++ (codes " mode=" ++ mode_text p.mode))))))))

-- which processes used a segment, and its attach count
abbrev pub use_text : ShmidDs → List ℕ
use_text s = codes "cpid=" ++ (decimal s.cpid ++ (codes " lpid=" ++ (decimal s.lpid ++ (codes " nattch=" ++ decimal s.nattch))))

-- the fields of stat before its times
abbrev pub fields_text : ShmidDs → List ℕ
fields_text s = codes "key=" ++ (key_text s.key ++ (codes " " ++ (perm_text s.perm ++ (codes " status=" ++ (status_text s.status ++ (codes " size=" ++ (decimal s.size ++ (codes " " ++ use_text s))))))))

-- the times of stat, each in these words
abbrev pub times_text : (ℕ → List ℕ) → ShmidDs → List ℕ
times_text time s = codes " atime=" ++ (time s.atime ++ (codes " dtime=" ++ (time s.dtime ++ (codes " ctime=" ++ time s.ctime))))

abbrev pub stat_text : ShmidDs → List ℕ
stat_text s = fields_text s ++ times_text decimal s

abbrev pub reply_text : Reply → List ℕ
reply_text (replies.Id id) = signed_decimal id
reply_text (replies.Addr addr) = address_text addr
reply_text (replies.Bytes bytes) = encode_lower bytes
reply_text (replies.Number n) = decimal n
reply_text (replies.Stat s) = stat_text s
reply_text replies.Done = codes "ok"
reply_text (replies.Refused e) = name_of e

-- the line of an event up to its reply: the process and the call
abbrev pub asked_text : Event → List ℕ
asked_text e = decimal e.pid ++ (codes " " ++ (call_text e.call ++ codes " = "))

-- the line of an event at a place of the history
abbrev pub event_text : ℕ → Event → List ℕ
event_text n e = decimal n ++ (codes " " ++ (asked_text e ++ (reply_text e.reply ++ codes "\n")))

-- the lines of events, the first of which is at place n
abbrev pub events_text : ℕ → List Event → List ℕ
events_text n [] = []
events_text n (e ∷ es) = event_text n e ++ events_text (n + 1) es
