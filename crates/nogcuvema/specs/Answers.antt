-- The codes of the interface's functions, and the handles afterwards. One definition serves all calls.
use Rattle.std.specs.Prelude.{ℕ, ◌≡◌, ◌⊎◌, Bool, true, false, List, length, Option, Some, None, Result, Ok, Err}
use Rattle.shm_base.specs.Bounds.{within}
use Rattle.shm_base.specs.Codes.{code_of}
use Rattle.shm_base.specs.Calls.{ProcessCall}
use Rattle.shm_base.specs.declared.call.Call.TheVariants.{Load, Store, Xadd, Exchange, CompareExchange}
use Rattle.shm_base.specs.declared.call.Reply.{Reply}
use Rattle.shm_life.specs.Lending.{pages_asked}
use Rattle.shm_machine.specs.declared.machine.Machine.{Machine}
use Rattle.shm_machine.specs.declared.refusal.Refusal.{Refusal}
use Rattle.shm_machine.specs.declared.refusal.Refusal.TheVariants.{Refused, HostMemory, Spent, Lent}
use Rattle.shm_machine.specs.Answered.{Answered}
use Rattle.shm_machine.specs.Ready.{AccessedBy, Deed, Does, reply_at, size_at}

abbrev pub no_memory : ℕ
no_memory = 2001

abbrev pub closed : ℕ
closed = 2002

abbrev pub out_of_range : ℕ
out_of_range = 2003

abbrev pub spent : ℕ
spent = 2004

abbrev pub lent : ℕ
lent = 2005

abbrev pub too_few_counts : ℕ
too_few_counts = 2006

-- the code of a refusal
abbrev pub refusal_code : Refusal → ℕ
refusal_code (Refused errno) = code_of errno
refusal_code HostMemory = no_memory
refusal_code Spent = spent
refusal_code Lent = lent

-- nothing changed, and the code says why
abbrev pub Unchanged : ℕ → Option Machine → ℕ → Option Machine → Type 0
Unchanged why before code after = (code ≡ why) × (after ≡ before)

-- the code is 0, and this is the result of a call that got the reply; or the code is that of a refusal
abbrev pub AnswersBy : (Result Reply Refusal → Machine → Type 0) → Reply → ℕ → Machine → Type 0
AnswersBy answered reply code after =
    ((code ≡ 0) × answered (Ok reply) after)
    ⊎ ((refusal : Refusal) × (code ≡ refusal_code refusal) × answered (Err refusal) after)

-- the same through a handle
abbrev pub AnswersIn : (Machine → Result Reply Refusal → Machine → Type 0) → Option Machine → Reply → ℕ → Option Machine → Type 0
AnswersIn answered None reply code after = Unchanged closed None code after
AnswersIn answered (Some before) reply code None = ⊥
AnswersIn answered (Some before) reply code (Some after) = AnswersBy (answered before) reply code after

-- the same for numbers that a call can carry; for others the code says so, and nothing changed
abbrev pub AnswersInWhere :
    Bool → (Machine → Result Reply Refusal → Machine → Type 0) → Option Machine → Reply → ℕ → Option Machine → Type 0
AnswersInWhere true answered before reply code after = AnswersIn answered before reply code after
AnswersInWhere false answered before reply code after = Unchanged out_of_range before code after

-- a process's call
abbrev pub calls : ℕ → ProcessCall → Machine → Result Reply Refusal → Machine → Type 0
calls pid call before result after = Answered before.system pid call result after.system

abbrev pub AnswersFor : Machine → ℕ → ProcessCall → Reply → ℕ → Machine → Type 0
AnswersFor before pid call reply code after = AnswersBy (calls pid call before) reply code after

-- a process's call through a handle; `reply` is what the outputs show if the code is 0
abbrev pub AnswersThrough : Option Machine → ℕ → ProcessCall → Reply → ℕ → Option Machine → Type 0
AnswersThrough before pid call reply code after = AnswersIn (calls pid call) before reply code after

abbrev pub AnswersWhere : Bool → Option Machine → ℕ → ProcessCall → Reply → ℕ → Option Machine → Type 0
AnswersWhere fits before pid call reply code after = AnswersInWhere fits (calls pid call) before reply code after

-- an access of a process to this many bytes from an address on
pub record Asked : Type 0 where
  pub pid : ℕ
  pub addr : ℕ
  pub len : ℕ
  pub puts : Bool

abbrev pub accesses : Asked → ProcessCall → Machine → Result Reply Refusal → Machine → Type 0
accesses a call before result after =
    AccessedBy (pages_asked before.system.machine a.pid a.addr a.len a.puts) before.system a.pid call result after.system

-- what a process does at some bytes
abbrev pub does : Deed → Machine → Result Reply Refusal → Machine → Type 0
does d before result after = Does d before.system result after.system

-- its code, where these are the old bytes
abbrev pub DoesBy : Deed → Machine → List ℕ → ℕ → Machine → Type 0
DoesBy d before old code after = AnswersBy (does d before) (reply_at d old) code after

-- the same through a handle, for 1 to 64 bytes
abbrev pub DoesIn : Deed → Option Machine → List ℕ → ℕ → Option Machine → Type 0
DoesIn d before old code after = AnswersInWhere (within 1 64 (size_at d)) (does d) before (reply_at d old) code after

abbrev pub loads : ℕ → ℕ → ℕ → Machine → Result Reply Refusal → Machine → Type 0
loads pid addr len = accesses (record { pid = pid; addr = addr; len = len; puts = false }) (Load addr len)

abbrev pub stores : ℕ → ℕ → List ℕ → Machine → Result Reply Refusal → Machine → Type 0
stores pid addr bytes = accesses (record { pid = pid; addr = addr; len = length bytes; puts = true }) (Store bytes addr)

abbrev pub adds : ℕ → ℕ → ℕ → Machine → Result Reply Refusal → Machine → Type 0
adds pid addr add = accesses (record { pid = pid; addr = addr; len = 8; puts = true }) (Xadd addr add)

abbrev pub exchanges : ℕ → ℕ → List ℕ → Machine → Result Reply Refusal → Machine → Type 0
exchanges pid addr bytes = accesses (record { pid = pid; addr = addr; len = length bytes; puts = true }) (Exchange bytes addr)

abbrev pub compares : ℕ → ℕ → List ℕ → List ℕ → Machine → Result Reply Refusal → Machine → Type 0
compares pid addr expected bytes =
    accesses (record { pid = pid; addr = addr; len = length bytes; puts = true }) (CompareExchange expected bytes addr)
