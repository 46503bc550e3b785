-- What contracts see of a machine: the flat machine, and the store that has its bytes.
use Rattle.std.specs.Prelude.{ℕ, ◌≡◌, ◌≤◌, Bool, true, false, length, Option, Some, Result, Ok, Err}
use Rattle.shm_base.specs.Calls.{ProcessCall}
use Rattle.shm_base.specs.declared.call.Call.TheVariants.{Lock}
use Rattle.shm_base.specs.declared.call.Reply.{Reply}
use Rattle.shm_base.specs.declared.call.Reply.TheVariants.{Done, Refused}
use Rattle.shm_base.specs.declared.errno.Errno.{Errno}
use Rattle.shm_base.specs.Bounds.{lockable}
use Rattle.shm_base.specs.State.{Machine}
use Rattle.shm_base.specs.Callers.{Outcome, Caller as FlatCaller, caller_of}
use Rattle.shm_base.specs.Step.{acts, step}
use Rattle.shm_base.specs.History.{is_failure, is_refusal}
use Rattle.shm_base.specs.Segments as flat
use Rattle.shm_fault.specs.Held.{holds_locked}
use Rattle.shm_slots.specs.View.{sizes, swap_slots}
use Rattle.shm_slots.specs.Cause.{GoesOn, had_cause}
use Rattle.shm_fault.specs.Store.{StoreView, held, used}
use Rattle.shm_fault.specs.Steps.{LockedPagesStay}
use Rattle.shm_fault.specs.Sound.{IsStoreSound}
use Rattle.shm_attach.specs.Spaces.{caller_seen}
use Rattle.shm_attach.specs.declared.process.Caller.{Caller}
use Rattle.shm_segments.specs.View.{ShowsTable}
use Rattle.shm_life.specs.Paging.{Paging, Pages, paging_of}
use Rattle.shm_life.specs.Sound.{AreProcesses}
use Rattle.shm_base.specs.declared.bounds.TheConstants.{MOST_SHMALL}

pub record MachineView : Type 0 where
  pub flat : Machine
  pub memory : StoreView

-- what every call and every flush keeps: pages of locked segments stay resident, and counts of failures never fall
pub record KeepsOn (before after : StoreView) : Type 0 where
  pub kept : LockedPagesStay before after
  pub goes_on : GoesOn before.swap after.swap

-- every segment that is locked afterwards was locked before
abbrev pub LocksNothing : StoreView → StoreView → Type 0
LocksNothing before after =
    (seg : ℕ) → holds_locked (held after) seg ≡ true → holds_locked (held before) seg ≡ true

abbrev pub is_lock : ProcessCall → Bool
is_lock (Lock id) = true
is_lock _ = false

-- a refusal that reports no pager's failure leaves the memory unchanged: no page moves, no bit changes, no count rises
abbrev pub StillIfRefused : (failed : Bool) → Reply → StoreView → StoreView → Type 0
StillIfRefused failed reply before after = is_refusal reply ≡ true → failed ≡ false → after ≡ before

-- a pager failed in a call that the flat machine does not refuse, and the flat machine is unchanged
pub record IsFailed (o : Outcome) (s t : MachineView) : Type 0 where
  pub instead : is_refusal o.reply ≡ false
  pub unchanged : t.flat ≡ s.flat
  pub cause : had_cause s.memory.swap t.memory.swap ≡ true

-- the reply to a call that gave this result
abbrev pub replied : {T : Type 0} → (T → Reply) → Result T Errno → Reply
replied reply (Ok t) = reply t
replied reply (Err errno) = Refused errno

abbrev pub done : Unit {0} → Reply
done _ = Done

-- the reply to a call that wrote its reply elsewhere
abbrev pub reply_in : Reply → Result (Unit {0}) Errno → Reply
reply_in reply result = replied (λ _. reply) result

-- The machine after a call to which the flat machine gives this outcome: that reply and that state; or, if the reply reports a
-- pager's failure, the old state. Pages are where this paging leaves them. Every other refusal leaves the memory unchanged, and
-- only a lock locks a segment
pub record Answered (o : Outcome) (does : Paging) (names locks : Bool) (reply : Reply) (s t : MachineView) : Type 0 where
  pub step : names ≡ false → o ≡ record { reply = reply; state = t.flat }
  pub failed : names ≡ true → IsFailed o s t
  pub keeps : KeepsOn s.memory t.memory
  pub locked : locks ≡ false → LocksNothing s.memory t.memory
  pub still : StillIfRefused names reply s.memory t.memory
  pub paged : Pages does names reply s.memory t.memory

-- the machine after an answer to a call of a process, if it is live
abbrev pub AnsweredTo : Outcome → Option FlatCaller → ProcessCall → Reply → MachineView → MachineView → Type 0
AnsweredTo o who call reply s t =
    Answered o (paging_of s.flat.table call who) (is_failure call reply) (is_lock call) reply s t

-- the machine after it served a caller's call at place n
abbrev pub Served : MachineView → ℕ → Caller → ProcessCall → Reply → MachineView → Type 0
Served s n caller call reply t =
    let seen = caller_seen caller s.flat.runners in
    AnsweredTo (acts s.flat n seen call) (Some seen) call reply s t

-- the machine after a process's call at place n, whether the process is live or not
abbrev pub AnsweredBy : MachineView → ℕ → ℕ → ProcessCall → Reply → MachineView → Type 0
AnsweredBy s n pid call reply t = AnsweredTo (step s.flat n pid call) (caller_of s.flat pid) call reply s t

-- the host refused memory for a call that the flat machine does not refuse, and nothing changed
pub record IsWithoutMemory (o : Outcome) (s t : MachineView) : Type 0 where
  pub unchanged : t ≡ s
  pub instead : is_refusal o.reply ≡ false

-- The memory is sound and shows the flat machine, and all counts are within their bounds: the used slots are no more than the
-- pages of all segments, and these no more than the slots of the active areas, nor than the limit. There are at most as many
-- processes as the limit says, and no two have one pid
pub record IsExactly (m : Machine) (memory : StoreView) : Type 0 where
  pub sound : IsStoreSound memory
  pub shows : ShowsTable m.table memory
  pub areas : m.areas ≡ sizes memory.swap
  pub frames : length memory.frames ≡ m.limits.frames
  pub used : used memory ≤ flat.reserved m.table
  pub room : flat.reserved m.table ≤ swap_slots memory.swap
  pub reserved : flat.reserved m.table ≤ m.limits.shmall
  pub shmall : m.limits.shmall ≤ MOST_SHMALL
  pub locked : flat.locked m.table ≤ lockable m.limits
  pub processes : AreProcesses m.limits.most_processes m.runners
