-- The record of a script's run, step by step.
use Rattle.std.specs.Prelude.{ℕ, ◌≡◌, ◌≤◌, ◌+◌, if◌then◌else◌, List, [], ◌∷◌, ◌++◌, length, Option, None, All}
use Rattle.shm_text.specs.Script.{ScriptView}
use Rattle.shm_history.specs.WorldState.{WorldState}
use Rattle.shm_program.specs.declared.action.Action.{Action}
use Rattle.shm_program.specs.declared.action.Action.TheVariants as actions
use Rattle.shm_program.specs.Record.{step_text}
use Rattle.shm_program.specs.Running.{IsRunOf, RunStep}
use Rattle.shm_slots.specs.View.{SwapView}
use Rattle.shm_laws.specs.Worlds.{IsWorldSound}
use Rattle.shmview.specs.Steps.{has_step, steps_asked}
use Rattle.shmview.specs.declared.steps.Steps.{Steps}

-- the record of a step, if the step is to be shown
abbrev pub shown_text : Steps → ℕ → Action → WorldState → List ℕ
shown_text asked n action w = if has_step asked n then step_text n action w else []

-- the records of these steps, numbered from n
abbrev pub steps_text : Steps → ℕ → List RunStep → List ℕ
steps_text asked n [] = []
steps_text asked n (s ∷ steps) = shown_text asked n s.action s.world ++ steps_text asked (n + 1) steps

-- the world after a step is sound: its memory shows its machine exactly
abbrev pub IsStepSound : RunStep → Type 0
IsStepSound s = IsWorldSound s.world

-- the record of a run of a script over these areas. Step 0 is the world when it opens, over the swap areas as they were passed
-- in, and each line is a step. If no steps are chosen, the script has at most 2,000 lines
pub record IsRecord (swap : SwapView) (asked : Option Steps) (script : ScriptView) (areas : List ℕ) (text : List ℕ) : Type 0 where
  pub start : WorldState
  pub steps : List RunStep
  pub end : WorldState
  pub ran : IsRunOf IsWorldSound swap script areas start steps end
  pub sound : All IsStepSound steps
  pub few : asked ≡ None → length script.lines ≤ 2000
  pub printed : text ≡ shown_text (steps_asked asked) 0 actions.Start start ++ steps_text (steps_asked asked) 1 steps
