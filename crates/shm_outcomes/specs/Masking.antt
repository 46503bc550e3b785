-- Outcomes without identifiers and addresses.
use Rattle.std.specs.Prelude.{◌≡◌, ℕ, pos, List, map, All, Contains}
use Rattle.shm_base.specs.declared.call.Reply.{Reply}
use Rattle.shm_base.specs.declared.call.Reply.TheVariants.{Id, Addr}
use Rattle.shm_text.specs.Script.{ScriptView}
use Rattle.shm_schedules.specs.Outcomes.{outcome_of}
use Rattle.shm_schedules.specs.Schedules.{Run, IsSchedule, schedule_of}
use Rattle.shm_outcomes.specs.Search.{AreDistinct, outcomes_in}
use Rattle.shm_schedules.specs.Finding.{Finding}

-- an identifier or an address is 0
abbrev pub hidden : Reply → Reply
hidden (Id id) = Id (pos 0)
hidden (Addr addr) = Addr 0
hidden reply = reply

abbrev pub hidden_outcome : List (List Reply) → List (List Reply)
hidden_outcome outcome = map (map hidden) outcome

-- the finding's run is that of a schedule, and has the finding's outcome without identifiers and addresses
abbrev pub IsMaskedFinding : ScriptView → Run → Finding → Type 0
IsMaskedFinding script first f =
    (end : Run)
    × IsSchedule script first (schedule_of f.events) end
    × (end.events ≡ f.events)
    × (f.outcome ≡ hidden_outcome (outcome_of script f.events))

-- every outcome once; those that differ only in identifiers and addresses count as one
pub record AreMaskedOutcomes (script : ScriptView) (first : Run) (found : List Finding) : Type 0 where
  pub sound : All (IsMaskedFinding script first) found
  pub complete : (schedule : List ℕ) (end : Run) → IsSchedule script first schedule end → Contains (outcomes_in found) (hidden_outcome (outcome_of script end.events))
  pub distinct : AreDistinct (outcomes_in found)

-- the finding without identifiers and addresses
abbrev pub hidden_finding : Finding → Finding
hidden_finding f = record { events = f.events; outcome = hidden_outcome f.outcome }
