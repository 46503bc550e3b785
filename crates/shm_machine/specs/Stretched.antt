-- Loads and stores of any length: sequences of calls, each of which ends with its page.
use Rattle.std.specs.Prelude.{ℕ, zero, suc, ◌≡◌, ◌+◌, ◌-◌, ◌/◌, ◌%◌, ◌^◌, ◌<◌, ◌≤◌, ◌⊎◌, min, Bool, true, false, List, length, take, drop, replicate, Err, MatchOption, Option, Some, None}
use Rattle.shm_base.specs.Calls.{ProcessCall}
use Rattle.shm_base.specs.declared.call.Call.TheVariants.{Load, Store}
use Rattle.shm_base.specs.declared.call.Reply.{Reply}
use Rattle.shm_base.specs.declared.call.Reply.TheVariants.{Bytes, Done}
use Rattle.shm_base.specs.declared.errno.Errno.TheVariants.{Sigsegv}
use Rattle.shm_base.specs.History.{is_refusal}
use Rattle.shm_base.specs.Step.{step}
use Rattle.shm_base.specs.declared.paging.TheConstants.{PAGE_SIZE}
use Rattle.shm_slots.specs.Cause.{GoesOn}
use Rattle.shm_fault.specs.Loans.{LoansStay}
use Rattle.shm_fault.specs.Placing.{places}
use Rattle.shm_fault.specs.Steps.{LockedPagesStay}
use Rattle.shm_life.specs.Lending.{pages_asked}
use Rattle.shm_life.specs.MachineView.{LocksNothing}
use Rattle.shm_life.specs.SystemState.{SystemState, time_of}
use Rattle.shm_machine.specs.declared.refusal.Refusal.{Refusal}
use Rattle.shm_machine.specs.declared.refusal.Refusal.TheVariants.{Refused}
use Rattle.shm_machine.specs.declared.stretch.Progress.{Progress}
use Rattle.shm_machine.specs.Ready.{AccessMade, AccessedBy}

-- how many calls an access of n bytes at an address makes: one for each page
abbrev pub calls_for : ℕ → ℕ → ℕ
calls_for addr zero = 0
calls_for addr (suc n) = (addr % PAGE_SIZE + suc n + (PAGE_SIZE - 1)) / PAGE_SIZE

-- how many of n bytes the next call takes
abbrev pub next_len : ℕ → ℕ → ℕ
next_len addr n = min n (PAGE_SIZE - addr % PAGE_SIZE)

-- the next call of a read, and of a write, once some bytes were done
abbrev pub load_on : ℕ → ℕ → ℕ → ProcessCall
load_on addr done len = Load (addr + done) len

abbrev pub store_on : List ℕ → ℕ → ℕ → ℕ → ProcessCall
store_on bytes addr done len = Store (take len (drop done bytes)) (addr + done)

-- These calls were made for the first bytes of `size`, each where the one before it left the machine. So each has its own pages
-- that came in or left, and its own counts.
pub data CallsMade
    (pid addr size : ℕ) (puts : Bool) (next : ℕ → ℕ → ProcessCall) (before : SystemState) : ℕ → SystemState → Type 0 where
  NoCall : CallsMade pid addr size puts next before 0 before
  OneMore :
      (done : ℕ) (now : SystemState) (reply : Reply) (after : SystemState)
      → CallsMade pid addr size puts next before done now → is_refusal reply ≡ false
      → AccessMade (pages_asked now.machine pid (addr + done) (next_len (addr + done) (size - done)) puts) now pid
      (next done (next_len (addr + done) (size - done))) reply after
      → CallsMade pid addr size puts next before (done + next_len (addr + done) (size - done)) after

-- this many bytes were done, by one call for each page, and no count of failures fell
pub record Reached (before : SystemState) (addr bytes : ℕ) (stood : SystemState) : Type 0 where
  pub calls : stood.calls ≡ before.calls + calls_for addr bytes
  pub opening : stood.opening ≡ before.opening
  pub clock : stood.clock ≡ before.clock
  pub goes_on : GoesOn before.memory.swap stood.memory.swap

-- the call at an address was refused; at 2^64 or above no call is made, since no piece is there
abbrev pub StoppedAt : SystemState → ℕ → ℕ → ℕ → Bool → ProcessCall → Refusal → SystemState → Type 0
StoppedAt stood pid addr len puts call refusal after =
    ((addr < 2 ^ 64) × AccessedBy (pages_asked stood.machine pid addr len puts) stood pid call (Err refusal) after)
    ⊎ ((2 ^ 64 ≤ addr) × (refusal ≡ Refused Sigsegv) × (after ≡ stood))

-- everything was done, or the next call was refused
abbrev pub EndedAt : SystemState → ℕ → ℕ → ℕ → Bool → (ℕ → ℕ → ProcessCall) → Progress → SystemState → Type 0
EndedAt stood pid addr size puts next p after =
    let len = next_len (addr + p.done) (size - p.done) in
    MatchOption p.stopped ((p.done ≡ size) × (after ≡ stood))
    (λ refusal. (p.done < size) × StoppedAt stood pid (addr + p.done) len puts (next p.done len) refusal after)

-- the bytes that were read are those of one load of the flat machine, and the rest of the buffer is unchanged; pages of locked
-- segments stay resident, no segment becomes locked, and each page on loan stays in its frame
pub record ReadTo (before : SystemState) (pid addr : ℕ) (old : List ℕ) (p : Progress) (new : List ℕ) (after : SystemState) : Type 0 where
  pub within : p.done ≤ length old
  pub rest : drop p.done new ≡ drop p.done old
  pub bytes : 0 < p.done → (step before.machine (time_of before) pid (Load addr p.done)).reply ≡ Bytes (take p.done new)
  pub stood : SystemState
  pub reached : Reached before addr p.done stood
  pub machine : stood.machine ≡ before.machine
  pub made : CallsMade pid addr (length old) false (load_on addr) before p.done stood
  pub ended : EndedAt stood pid addr (length old) false (load_on addr) p after
  pub kept : LockedPagesStay before.memory after.memory
  pub locks : LocksNothing before.memory after.memory
  pub stay : LoansStay (places before.memory) (places after.memory)

-- the bytes that were written are those of one store of the flat machine; pages of locked segments stay resident, and no segment
-- becomes locked, and each page on loan stays in its frame
pub record WrittenTo (before : SystemState) (pid addr : ℕ) (bytes : List ℕ) (p : Progress) (after : SystemState) : Type 0 where
  pub within : p.done ≤ length bytes
  pub stood : SystemState
  pub reached : Reached before addr p.done stood
  pub none : p.done ≡ 0 → stood.machine ≡ before.machine
  pub stored : 0 < p.done → step before.machine (time_of before) pid (Store (take p.done bytes) addr) ≡ record { reply = Done; state = stood.machine }
  pub made : CallsMade pid addr (length bytes) true (store_on bytes addr) before p.done stood
  pub ended : EndedAt stood pid addr (length bytes) true (store_on bytes addr) p after
  pub kept : LockedPagesStay before.memory after.memory
  pub locks : LocksNothing before.memory after.memory
  pub stay : LoansStay (places before.memory) (places after.memory)

-- what stops a copy: what stopped its store, else what stopped its load
abbrev pub stop_of : Option Refusal → Option Refusal → Option Refusal
stop_of (Some refusal) load = Some refusal
stop_of None load = load

-- a copy: one read of all bytes that can be read, and then one write of as many of them as can be written
pub record CopiedTo (before : SystemState) (from to : ℕ × ℕ) (size : ℕ) (p : Progress) (after : SystemState) : Type 0 where
  pub load : Progress
  pub bytes : List ℕ
  pub mid : SystemState
  pub read : ReadTo before from.0 from.1 (replicate size 0) load bytes mid
  pub store : Progress
  pub written : WrittenTo mid to.0 to.1 (take load.done bytes) store after
  pub done : p.done ≡ store.done
  pub stopped : p.stopped ≡ stop_of store.stopped load.stopped
