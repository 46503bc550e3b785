-- What contracts see of a world: its opening, its history, the flat machine at its end, and its memory.
use Rattle.std.specs.Prelude.{◌≡◌, ◌<◌, ◌≤◌, ◌+◌, ◌-◌, ◌^◌, ℕ, true, false, List, [], ◌∷◌, ◌++◌, length, map, min, count_by}
use Rattle.std.specs.List.{flat_map}
use Rattle.shm_base.specs.declared.call.Step.{Step}
use Rattle.shm_base.specs.declared.call.Step.TheVariants as steps
use Rattle.shm_base.specs.declared.call.Step.TheVariants.{Flush}
use Rattle.shm_base.specs.Calls.{ProcessCall}
use Rattle.shm_base.specs.declared.call.Reply.{Reply}
use Rattle.shm_base.specs.declared.call.Event.{Event}
use Rattle.shm_base.specs.declared.paging.FlushReport.{FlushReport}
use Rattle.shm_base.specs.History.{IsMove, is_failure, is_refusal}
use Rattle.shm_base.specs.Callers.{caller_of}
use Rattle.shm_base.specs.Step.{step}
use Rattle.shm_base.specs.State.{Opening, Machine}
use Rattle.shm_base.specs.Segments.{segment_count, reserved, locked}
use Rattle.shm_base.specs.declared.paging.Tally.{Tally}
use Rattle.shm_slots.specs.View.{SwapView, swap_slots}
use Rattle.shm_slots.specs.Cause.{total, had_cause}
use Rattle.shm_fault.specs.Store.{StoreView, resident, dirty, used}
use Rattle.shm_fault.specs.Flushing.{IsFlushed}
use Rattle.shm_life.specs.MachineView.{KeepsOn, StillIfRefused}
use Rattle.shm_life.specs.Paging.{Pages, paging_of}
use Rattle.shm_base.specs.Memory.{TakesNoMemory}

pub record WorldState : Type 0 where
  pub opening : Opening
  pub events : List Event
  pub machine : Machine
  pub memory : StoreView
  pub room : ℕ

abbrev pub event : ℕ → ProcessCall → Reply → Event
event pid call reply = record { pid = pid; call = call; reply = reply }

-- how many replies report a pager's failure
abbrev pub failures_in : List Event → ℕ
failures_in events = count_by (λ (e : Event). is_failure e.call e.reply) events

-- if no area was ever spent, the replies report no more failures than were counted
unfoldable pub AreCounted : List Event → SwapView → Type 0
AreCounted events swap = swap.never_spent ≡ true → failures_in events ≤ total swap

-- the pids and calls of the events
abbrev pub calls_of : List Event → List (ℕ × ProcessCall)
calls_of events = map (λ (e : Event). (e.pid, e.call)) events

-- the calls of a step; a flush round has none
abbrev pub calls_in : Step → List (ℕ × ProcessCall)
calls_in (steps.Call pid call) = (pid, call) ∷ []
calls_in (Flush n) = []

abbrev pub step_calls : List Step → List (ℕ × ProcessCall)
step_calls steps = flat_map calls_in steps

-- the call is recorded with its reply, and is a move of the machine; pages are where it leaves them
pub record IsCalled (before : WorldState) (pid : ℕ) (call : ProcessCall) (reply : Reply) (after : WorldState) : Type 0 where
  pub recorded : after.events ≡ before.events ++ event pid call reply ∷ []
  pub move_of : IsMove before.machine (length before.events + 1) (event pid call reply) after.machine
  pub cause : is_failure call reply ≡ true → had_cause before.memory.swap after.memory.swap ≡ true
  pub keeps : KeepsOn before.memory after.memory
  pub still : StillIfRefused (is_failure call reply) reply before.memory after.memory
  pub paged :
      let does = paging_of before.machine.table call (caller_of before.machine pid) in
      Pages does (is_failure call reply) reply before.memory after.memory
  pub opening : after.opening ≡ before.opening
  pub room : before.room ≤ after.room + 1

-- a flush round changes only the memory
pub record IsRound (before : WorldState) (pages : ℕ) (report : FlushReport) (after : WorldState) : Type 0 where
  pub flushed : IsFlushed before.memory after.memory pages report
  pub keeps : KeepsOn before.memory after.memory
  pub rest : after ≡ record before { memory = after.memory }

-- the world after one step
abbrev pub IsRun : WorldState → Step → WorldState → Type 0
IsRun before (steps.Call pid call) after = (reply : Reply) × IsCalled before pid call reply after
IsRun before (Flush pages) after = (report : FlushReport) × IsRound before pages report after

-- the steps lead from one world to the other
abbrev pub RunTo : WorldState → List Step → WorldState → Type 0
RunTo before [] after = after ≡ before
RunTo before (one ∷ more) after = (next : WorldState) × IsRun before one next × RunTo next more after

-- the host may refuse memory for this step: a call; with room left, one that takes memory and that the flat machine does not
-- refuse
abbrev pub MayStop : WorldState → Step → Type 0
MayStop w (steps.Call pid call) = 0 < w.room → (TakesNoMemory call → ⊥) × (is_refusal (step w.machine (length w.events + 1) pid call).reply ≡ false)
MayStop w (Flush pages) = ⊥

-- the steps before one that may stop were run; afterwards only the room changed, and it did not shrink
abbrev pub StopsIn : WorldState → List Step → WorldState → Type 0
StopsIn before steps after =
    (done : List Step)
    × (stop : Step)
    × (left : List Step)
    × (last : WorldState)
    × (steps ≡ done ++ stop ∷ left)
    × RunTo before done last
    × MayStop last stop
    × (after ≡ record last { room = after.room })
    × (last.room ≤ after.room)

-- a step that takes no memory if room is left
abbrev pub StepTakesNone : Step → Type 0
StepTakesNone (steps.Call pid call) = TakesNoMemory call
StepTakesNone (Flush pages) = Unit {0}

-- the counts of a world
abbrev pub tally_of : WorldState → Tally
tally_of w =
    record {
      events = length w.events;
      segments = segment_count w.machine.table;
      reserved = reserved w.machine.table;
      locked = locked w.machine.table;
      frames = w.machine.limits.frames;
      resident = resident w.memory;
      dirty = dirty w.memory;
      slots = swap_slots w.memory.swap;
      used = used w.memory;
      ins = w.memory.ins;
      outs = w.memory.outs;
      failures = min (total w.memory.swap) (2 ^ 64 - 1);
    }
