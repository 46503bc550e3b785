-- The keys of a search. No continuation distinguishes runs with one key.
use Rattle.std.specs.Prelude.{◌≡◌, ◌<◌, ℕ, List, All, length}
use Rattle.std.specs.List.{AllPairs}
use Rattle.shm_base.specs.declared.call.Reply.{Reply}
use Rattle.shm_text.specs.Script.{ScriptView}
use Rattle.shm_outcomes.specs.Changes.{Effects, effects_of}
use Rattle.shm_schedules.specs.Outcomes.{outcome_of}
use Rattle.shm_schedules.specs.Schedules.{Run, IsReached}

-- the number of calls, the replies to each process without times, and the changes of the machine
pub record Key : Type 0 where
  pub count : ℕ
  pub replies : List (List Reply)
  pub effects : Effects

-- the key of a run that began as the first one
abbrev pub key_of : ScriptView → Run → Run → Key
key_of script first run =
    record { count = length run.events; replies = outcome_of script run.events; effects = effects_of first.machine run.events }

-- a schedule leads to a run with this key
abbrev pub IsKeyOf : ScriptView → Run → Key → Type 0
IsKeyOf script first key = (run : Run) × IsReached script first run × (key ≡ key_of script first run)

abbrev pub AreOther : Key → Key → Type 0
AreOther a b = a ≡ b → ⊥

-- there are more keys than the bound, of which no two are equal
abbrev pub AreMoreKeys : ScriptView → Run → ℕ → Type 0
AreMoreKeys script first most = (keys : List Key) × (most < length keys) × All (IsKeyOf script first) keys × AllPairs AreOther keys
