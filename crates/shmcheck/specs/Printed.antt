-- What the program writes, or why it writes nothing.
use Rattle.std.specs.Prelude.{◌≡◌, ℕ, Bool, true, false, List}
use Rattle.shm_text.specs.Script.{ScriptView}
use Rattle.shm_outcomes.specs.Masking.{AreMaskedOutcomes}
use Rattle.shm_schedules.specs.Schedules.{Run, start}
use Rattle.shm_schedules.specs.Finding.{Finding}
use Rattle.shm_outcomes.specs.Search.{AreOutcomes}
use Rattle.shm_outcomes.specs.Text.{outcomes_text}

-- every outcome once; or every masked outcome once
abbrev pub AreListed : Bool → ScriptView → Run → List Finding → Type 0
AreListed true script first found = AreMaskedOutcomes script first found
AreListed false script first found = AreOutcomes script first found

-- the text of such outcomes
abbrev pub IsTextOf : Bool → ScriptView → Run → List ℕ → Type 0
IsTextOf masks script first text = (found : List Finding) × AreListed masks script first found × (text ≡ outcomes_text masks script found)

-- the text of every outcome of the script over swap areas of these sizes, each once, with a schedule that has it
abbrev pub IsOutcomesText : Bool → ScriptView → List ℕ → List ℕ → Type 0
IsOutcomesText masks script areas text = IsTextOf masks script (start script areas) text
