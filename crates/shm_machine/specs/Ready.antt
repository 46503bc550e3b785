-- Accesses while the host may have pages on loan: way is made first, and then the access is made.
use Rattle.std.specs.Prelude.{ℕ, ◌≡◌, ◌⊎◌, List, Result, Ok, Err}
use Rattle.shm_base.specs.Calls.{ProcessCall}
use Rattle.shm_base.specs.declared.call.Reply.{Reply}
use Rattle.shm_base.specs.declared.call.Reply.TheVariants as replies
use Rattle.shm_base.specs.declared.errno.Errno.TheVariants.{Sigbus}
use Rattle.shm_base.specs.declared.paging.PageRef.{PageRef}
use Rattle.shm_frames.specs.Frame.{lent_of}
use Rattle.shm_fault.specs.Acting.{size_of, writes}
use Rattle.shm_fault.specs.Loans.{LoansStay}
use Rattle.shm_fault.specs.Placing.{places}
use Rattle.shm_fault.specs.declared.act.Act.{Act}
use Rattle.shm_life.specs.Accessing.{call_of, reply_of}
use Rattle.shm_life.specs.Lending.{MakesReady, pages_asked}
use Rattle.shm_life.specs.SystemState.{SystemState, most_calls, seen, Replied}
use Rattle.shm_life.specs.declared.loans.NotReady.{NotReady}
use Rattle.shm_life.specs.declared.loans.NotReady.TheVariants as ready
use Rattle.shm_machine.specs.Answered.{as_reply}
use Rattle.shm_machine.specs.declared.refusal.Refusal.{Refusal}
use Rattle.shm_machine.specs.declared.refusal.Refusal.TheVariants.{Refused, HostMemory, Spent, Lent}

-- way was made for an access of these pages; if nothing is on loan, nothing changed
pub record IsReady (rs : List PageRef) (before mid : SystemState) : Type 0 where
  pub rest : mid ≡ record before { memory = mid.memory }
  pub ready : MakesReady rs (seen before) (Ok tt) (seen mid)
  pub none : lent_of before.memory.frames ≡ 0 → mid ≡ before

-- way could not be made
pub record Waits (rs : List PageRef) (why : NotReady) (before after : SystemState) : Type 0 where
  pub rest : after ≡ record before { memory = after.memory }
  pub ready : MakesReady rs (seen before) (Err why) (seen after)

abbrev pub refusal_of : NotReady → Refusal
refusal_of ready.Lent = Lent
refusal_of ready.Sigbus = Refused Sigbus

-- why the access was not made; it is not counted then
abbrev pub NotMade : List PageRef → Refusal → SystemState → SystemState → Type 0
NotMade rs (Refused e) before after = (e ≡ Sigbus) × Waits rs ready.Sigbus before after
NotMade rs HostMemory before after = ⊥
NotMade rs Spent before after = (before.calls ≡ most_calls) × (after ≡ before)
NotMade rs Lent before after = Waits rs ready.Lent before after

-- the access was made once way was made for it, and got this reply; each page on loan stays in its frame
pub record AccessMade
    (rs : List PageRef) (before : SystemState) (pid : ℕ) (call : ProcessCall) (reply : Reply) (after : SystemState)
    : Type 0 where
  pub mid : SystemState
  pub ready : IsReady rs before mid
  pub access : Replied mid pid call reply after
  pub stay : LoansStay (places before.memory) (places after.memory)

-- the result of an access, and the machine afterwards
abbrev pub AccessedBy : List PageRef → SystemState → ℕ → ProcessCall → Result Reply Refusal → SystemState → Type 0
AccessedBy rs before pid call (Ok reply) after = AccessMade rs before pid call reply after
AccessedBy rs before pid call (Err (Refused e)) after =
    AccessMade rs before pid call (replies.Refused e) after ⊎ NotMade rs (Refused e) before after
AccessedBy rs before pid call (Err HostMemory) after = ⊥
AccessedBy rs before pid call (Err Spent) after = NotMade rs Spent before after
AccessedBy rs before pid call (Err Lent) after = NotMade rs Lent before after

-- what a process does at the bytes from an address on, and how many of the old bytes it has room for
pub record Deed : Type 0 where
  pub pid : ℕ
  pub addr : ℕ
  pub act : Act
  pub room : ℕ

abbrev pub deed : ℕ → ℕ → Act → ℕ → Deed
deed pid addr act room = record { pid = pid; addr = addr; act = act; room = room }

abbrev pub size_at : Deed → ℕ
size_at d = size_of d.act d.room

abbrev pub pages_at : SystemState → Deed → List PageRef
pages_at before d = pages_asked before.machine d.pid d.addr (size_at d) (writes d.act)

-- the reply, if these are the old bytes
abbrev pub reply_at : Deed → List ℕ → Reply
reply_at d old = reply_of d.act d.room old

-- the result of the access that a deed is, and the machine afterwards
abbrev pub Does : Deed → SystemState → Result Reply Refusal → SystemState → Type 0
Does d before result after = AccessedBy (pages_at before d) before d.pid (call_of d.act d.addr d.room) result after

-- it was done, and then these are the old bytes; or it was refused
abbrev pub Did : {A : Type 0} → Deed → SystemState → Result A Refusal → List ℕ → SystemState → Type 0
Did d before result old after = Does d before (as_reply (λ _. reply_at d old) result) after
