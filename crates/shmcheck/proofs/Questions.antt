-- What the outcomes of a search say about a condition.
use Rattle.std.specs.Prelude.{◌≡◌, ℕ, suc, zero, false, List, [], ◌∷◌, All, Contains}
use Rattle.std.proofs.Common.{arith, subst}
use Rattle.std.proofs.lemmas.List.Elements.{All-contains, All-head, All-tail}
use Rattle.shm_base.specs.declared.call.Reply.{Reply}
use Rattle.shm_base.specs.State.{Machine}
use Rattle.shm_conditions.specs.Conditions.{Condition, holds}
use Rattle.shm_text.specs.Script.{ScriptView}
use Rattle.shm_schedules.specs.Finding.{Finding}
use Rattle.shm_schedules.specs.Outcomes.{outcome_of}
use Rattle.shm_schedules.specs.Schedules.{Run, fresh, start}
use Rattle.shm_outcomes.specs.Search.{AreOutcomes, IsFinding, outcomes_in}
use Rattle.shmcheck.specs.Questioned.{AreMet, IsUnmet, IsWitness}

-- none of these outcomes meets the condition
unmet-outcome : (condition : Condition) (found : List Finding) (o : List (List Reply)) → All (IsUnmet condition) found → Contains (outcomes_in found) o → holds o condition ≡ false
unmet-outcome condition [] o all (i, lt, at) = absurd (omega (arith, lt))
unmet-outcome condition (f ∷ fs) o all (zero, lt, at) = subst (λ (x : List (List Reply)). holds x condition ≡ false) at (All-head (IsUnmet condition) f fs all)
unmet-outcome condition (f ∷ fs) o all (suc i, lt, at) = unmet-outcome condition fs o (All-tail (IsUnmet condition) f fs all) (i, omega (arith, lt), at)

-- one of all outcomes that meets the condition is a witness; and if none does, no schedule does
witness-of : (script : ScriptView) (first : Run) (condition : Condition) (found met : List Finding) → AreOutcomes script first found → AreMet condition found met → IsWitness script first condition met
witness-of script first condition found [] are none = λ schedule end is. unmet-outcome condition found (outcome_of script end.events) none (are.complete schedule end is)
witness-of script first condition found (f ∷ fs) are (one, among, meets) = (one, All-contains (IsFinding script first) found f are.sound among, meets)

-- the search began at the machine as the script opens it
pub witness : (script : ScriptView) (areas : List ℕ) (condition : Condition) (machine : Machine) (found met : List Finding)
    → machine ≡ (start script areas).machine → AreOutcomes script (fresh machine) found → AreMet condition found met → IsWitness script (start script areas) condition met
witness script areas condition machine found met at are some =
    witness-of script (start script areas) condition found met (subst (λ (m : Machine). AreOutcomes script (fresh m) found) at are) some
