-- The answer to a call and the machine afterwards, for all calls at once.
use Rattle.std.specs.Prelude.{ℕ, ◌≡◌, ◌==◌, Bool, true, false, length, Result, Ok, Err}
use Rattle.shm_base.specs.Calls.{ProcessCall}
use Rattle.shm_base.specs.declared.call.Call.TheVariants.{Shmget, Shmat, Shmdt, Stat, Set, Rmid, Lock, Unlock, Load, Store, Xadd, Exchange, CompareExchange, Fork, Exec, Exit, Swapoff, Munmap, Mprotect, Setuid}
use Rattle.shm_base.specs.declared.call.Reply.{Reply}
use Rattle.shm_base.specs.declared.call.Reply.TheVariants as replies
use Rattle.shm_base.specs.declared.call.Reply.TheVariants.{Id, Addr, Bytes, Number, Done}
use Rattle.shm_base.specs.declared.paging.FlushReport.{FlushReport}
use Rattle.shm_fault.specs.Flushing.{IsFlushed}
use Rattle.shm_life.specs.MachineView.{KeepsOn}
use Rattle.shm_life.specs.SystemState.{SystemState, most_calls, Replied, IsOutOfMemory}
use Rattle.shm_machine.specs.declared.refusal.Refusal.{Refusal}
use Rattle.shm_machine.specs.declared.refusal.Refusal.TheVariants.{Refused, HostMemory, Spent, Lent}

-- the result of a call and the machine afterwards; the host's memory matters only if the flat machine refuses nothing
abbrev pub Answered : SystemState → ℕ → ProcessCall → Result Reply Refusal → SystemState → Type 0
Answered before pid call (Ok reply) after = Replied before pid call reply after
Answered before pid call (Err (Refused errno)) after = Replied before pid call (replies.Refused errno) after
Answered before pid call (Err HostMemory) after = IsOutOfMemory before pid call after
Answered before pid call (Err Spent) after = (before.calls ≡ most_calls) × (after ≡ before)
Answered before pid call (Err Lent) after = ⊥

-- a reply that is not a refusal is of the call's kind
abbrev pub fits : ProcessCall → Reply → Bool
fits (Shmget key size mode flags) (Id id) = true
fits (Shmat id addr flags) (Addr at) = true
fits (Stat id) (replies.Stat shown) = true
fits (Load addr len) (Bytes bytes) = length bytes == len
fits (Xadd addr add) (Number n) = true
fits (Exchange new addr) (Bytes old) = length old == length new
fits (CompareExchange expected new addr) (Bytes old) = length old == length new
fits (Shmdt addr) Done = true
fits (Set id uid gid mode) Done = true
fits (Rmid id) Done = true
fits (Lock id) Done = true
fits (Unlock id) Done = true
fits (Store bytes addr) Done = true
fits (Fork child) Done = true
fits Exec Done = true
fits Exit Done = true
fits (Swapoff area) Done = true
fits (Munmap addr len) Done = true
fits (Mprotect addr len writable) Done = true
fits (Setuid uid gid) Done = true
fits _ _ = false

-- the reply from which a result was taken, if there is one
abbrev pub as_reply : {A : Type 0} → (A → Reply) → Result A Refusal → Result Reply Refusal
as_reply reply_of (Ok a) = Ok (reply_of a)
as_reply reply_of (Err refusal) = Err refusal

-- the reply of a call without a value
abbrev pub done : {A : Type 0} → A → Reply
done _ = Done

-- a flush round changes only the memory
pub record Flushed (before : SystemState) (pages : ℕ) (report : FlushReport) (after : SystemState) : Type 0 where
  pub rest : after ≡ record before { memory = after.memory }
  pub flushed : IsFlushed before.memory after.memory pages report
  pub keeps : KeepsOn before.memory after.memory
