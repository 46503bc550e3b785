-- The nodes of a search: runs with the replies to each process and the effects on the machine. Two nodes with one key are
-- equivalent: each continuation of one is a continuation of the other, with the same replies except for times.
use Rattle.std.specs.Prelude.{ℕ, ◌+◌, List, length}
use Rattle.shm_base.specs.Step.{step}
use Rattle.shm_base.specs.Calls.{ProcessCall}
use Rattle.shm_base.specs.declared.call.Event.{Event}
use Rattle.shm_base.specs.declared.call.Reply.{Reply}
use Rattle.shm_text.specs.Script.{ScriptView}
use Rattle.shm_outcomes.specs.Changes.{Effects, no_effects, effects_after}
use Rattle.shm_outcomes.specs.Keys.{Key}
use Rattle.shm_schedules.specs.Outcomes.{outcome_of, replies_after}
use Rattle.shm_schedules.specs.Schedules.{Run, after}

pub record Node : Type 0 where
  pub run : Run
  pub replies : List (List Reply)
  pub effects : Effects

abbrev pub run_in : Node → Run
run_in b = b.run

abbrev pub root : ScriptView → Run → Node
root script run = record { run = run; replies = outcome_of script run.events; effects = no_effects }

-- a call that a run makes next, with its reply
abbrev pub event_after : Run → ℕ → ProcessCall → Event
event_after run pid call = record { pid = pid; call = call; reply = (step run.machine (length run.events + 1) pid call).reply }

abbrev pub successor : ScriptView → Node → ℕ → ProcessCall → Node
successor script b pid call =
    let e = event_after b.run pid call in
    record { run = after b.run pid call; replies = replies_after script.processes e b.replies; effects = effects_after b.run.machine e b.effects }

abbrev pub key_at : Node → Key
key_at b = record { count = length b.run.events; replies = b.replies; effects = b.effects }
