-- The answer to a question: whether some schedule of a script meets a condition.
use Rattle.std.specs.Prelude.{◌≡◌, ℕ, true, false, List, [], ◌∷◌, ◌++◌, Ok, All, Contains, codes}
use Rattle.shm_conditions.specs.Conditions.{Condition, holds}
use Rattle.shm_conditions.specs.Reading.{condition_of}
use Rattle.shm_text.specs.Script.{ScriptView}
use Rattle.shm_schedules.specs.Finding.{Finding}
use Rattle.shm_schedules.specs.Outcomes.{outcome_of}
use Rattle.shm_schedules.specs.Schedules.{Run, IsSchedule, start}
use Rattle.shm_outcomes.specs.Search.{IsFinding}
use Rattle.shm_outcomes.specs.Text.{outcomes_text}
use Rattle.shmcheck.specs.declared.command.Wish.{Wish}
use Rattle.shmcheck.specs.declared.command.Wish.TheVariants.{Exists, Forbid}

abbrev pub IsMet : Condition → Finding → Type 0
IsMet condition f = holds f.outcome condition ≡ true

abbrev pub IsUnmet : Condition → Finding → Type 0
IsUnmet condition f = holds f.outcome condition ≡ false

-- one of these findings that meets the condition; none only if no one does
abbrev pub AreMet : Condition → List Finding → List Finding → Type 0
AreMet condition found [] = All (IsUnmet condition) found
AreMet condition found (f ∷ fs) = (fs ≡ []) × Contains found f × IsMet condition f

-- no schedule of the script meets the condition
abbrev pub IsNeverMet : ScriptView → Run → Condition → Type 0
IsNeverMet script first condition =
    (schedule : List ℕ) (end : Run) → IsSchedule script first schedule end → holds (outcome_of script end.events) condition ≡ false

-- a schedule's run that meets the condition; none only if no schedule does
abbrev pub IsWitness : ScriptView → Run → Condition → List Finding → Type 0
IsWitness script first condition [] = IsNeverMet script first condition
IsWitness script first condition (f ∷ fs) = (fs ≡ []) × IsFinding script first f × IsMet condition f

-- `no`, or `yes` with the outcome and the schedule of that run
abbrev pub answer_text : ScriptView → List Finding → List ℕ
answer_text script [] = codes "no\n"
answer_text script (f ∷ fs) = codes "yes\n" ++ outcomes_text false script (f ∷ fs)

-- the exit status: 0 if the answer is as wished
abbrev pub question_status : Wish → List Finding → ℕ
question_status Exists [] = 6
question_status Exists (f ∷ fs) = 0
question_status Forbid [] = 0
question_status Forbid (f ∷ fs) = 6

-- the text and the exit status of a right answer about this condition
abbrev pub IsQuestionAnswer : Wish → List ℕ → ℕ → ScriptView → List ℕ → List ℕ → Type 0
IsQuestionAnswer wish words status script areas text =
    (condition : Condition)
    × (condition_of script words ≡ Ok condition)
    × ((met : List Finding)
    × IsWitness script (start script areas) condition met
    × (status ≡ question_status wish met)
    × (text ≡ answer_text script met))
