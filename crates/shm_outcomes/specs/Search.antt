-- What a search over all schedules has found so far.
use Rattle.std.specs.Prelude.{◌≡◌, ◌⊎◌, ◌<◌, ℕ, List, [], ◌∷◌, ◌++◌, map, All, Contains, length, slice_index_or}
use Rattle.std.specs.List.{AllPairs}
use Rattle.shm_base.specs.declared.call.Reply.{Reply}
use Rattle.shm_text.specs.Script.{ScriptView}
use Rattle.shm_schedules.specs.Finding.{Finding}
use Rattle.shm_schedules.specs.Outcomes.{outcome_of}
use Rattle.shm_schedules.specs.Schedules.{Run, IsReached, IsSchedule, schedule_of}
use Rattle.shm_schedules.specs.declared.search_error.SearchError.{SearchError}
use Rattle.shm_schedules.specs.declared.search_error.SearchError.TheVariants.{HostMemory, Bound}

abbrev pub outcome_in : Finding → List (List Reply)
outcome_in f = f.outcome

abbrev pub outcomes_in : List Finding → List (List (List Reply))
outcomes_in found = map outcome_in found

-- the finding's run is that of a schedule, and has its outcome
abbrev pub IsFinding : ScriptView → Run → Finding → Type 0
IsFinding script first f =
    (end : Run)
    × IsSchedule script first (schedule_of f.events) end
    × (end.events ≡ f.events)
    × (f.outcome ≡ outcome_of script f.events)

-- the finding is appended, unless its outcome is there
abbrev pub IsInserted : List Finding → Finding → List Finding → Type 0
IsInserted olds f news =
    (Contains (outcomes_in olds) f.outcome × (news ≡ olds)) ⊎ ((Contains (outcomes_in olds) f.outcome → ⊥) × (news ≡ olds ++ f ∷ []))

-- no outcome is there twice
abbrev pub AreDistinct : List (List (List Reply)) → Type 0
AreDistinct outcomes =
    (i j : ℕ) (o : List (List Reply)) → i < j → j < length outcomes → slice_index_or outcomes i o ≡ o → slice_index_or outcomes j o ≡ o → ⊥

-- the calls and replies of two beginnings differ
abbrev pub AreDifferent : Run → Run → Type 0
AreDifferent a b = a.events ≡ b.events → ⊥

-- schedules of the script lead to more beginnings than the bound, no two of them the same
abbrev pub AreMoreRuns : ScriptView → Run → ℕ → Type 0
AreMoreRuns script first most = (runs : List Run) × (most < length runs) × All (IsReached script first) runs × AllPairs AreDifferent runs

-- a search has no answer: the host refused memory, or this holds, which is about its bound
abbrev pub IfBound : Type 0 → SearchError → Type 0
IfBound P HostMemory = Unit {0}
IfBound P Bound = P

abbrev pub IsCause : ScriptView → Run → ℕ → SearchError → Type 0
IsCause script first most error = IfBound (AreMoreRuns script first most) error

-- Every outcome, once: each finding has a schedule, and each schedule's outcome is among them
pub record AreOutcomes (script : ScriptView) (first : Run) (found : List Finding) : Type 0 where
  pub sound : All (IsFinding script first) found
  pub complete : (schedule : List ℕ) (end : Run) → IsSchedule script first schedule end → Contains (outcomes_in found) (outcome_of script end.events)
  pub distinct : AreDistinct (outcomes_in found)
