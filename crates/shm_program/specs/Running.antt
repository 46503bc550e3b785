-- The run of a script's lines in file order, a step for each line.
use Rattle.std.specs.Prelude.{◌≡◌, ℕ, List, [], ◌∷◌, map, Some}
use Rattle.shm_base.specs.Calls.{ProcessCall}
use Rattle.shm_base.specs.declared.call.Reply.{Reply}
use Rattle.shm_base.specs.declared.paging.FlushReport.{FlushReport}
use Rattle.shm_history.specs.WorldState.{WorldState, event, IsCalled, IsRound}
use Rattle.shm_slots.specs.View.{SwapView}
use Rattle.shm_text.specs.Form.{CommandView}
use Rattle.shm_text.specs.Script.{ScriptView}
use Rattle.shm_text.specs.Variables.{call_of}
use Rattle.shm_text.specs.declared.script.Line.{Line}
use Rattle.shm_text.specs.declared.script.Line.TheVariants.{Command, Flush}
use Rattle.shm_program.specs.Runs.{IsFresh, IsWorldOf}
use Rattle.shm_program.specs.Values.{HolderView, fresh_holder, values_of, with_answer}
use Rattle.shm_program.specs.declared.action.Action.{Action}
use Rattle.shm_program.specs.declared.action.Action.TheVariants as actions

-- the call that a command line makes with these variables
abbrev pub call_made : List HolderView → CommandView → ProcessCall
call_made hs c = call_of (values_of hs c.pid) c.call

-- a step of a run: its action, and the variables and the world after it
pub record RunStep : Type 0 where
  pub action : Action
  pub values : List HolderView
  pub world : WorldState

-- one line ran: its action, and its effect on the variables and the world
abbrev pub HasRun : List HolderView → WorldState → Line → RunStep → Type 0
HasRun hs w (Command c) s =
    (reply : Reply) × (s.action ≡ actions.Call (event c.pid (call_made hs c) reply)) × IsCalled w c.pid (call_made hs c) reply s.world × (s.values ≡ with_answer hs c (Some reply))
HasRun hs w (Flush pages) s =
    (report : FlushReport) × (s.action ≡ actions.Flush pages report) × IsRound w pages report s.world × (s.values ≡ hs)

-- the lines ran in order, a step for each, from these variables and this world to those
abbrev pub HaveRun : List HolderView → WorldState → List Line → List RunStep → List HolderView → WorldState → Type 0
HaveRun hs w [] [] later end = (later ≡ hs) × (end ≡ w)
HaveRun hs w [] (s ∷ ss) later end = ⊥
HaveRun hs w (l ∷ ls) [] later end = ⊥
HaveRun hs w (l ∷ ls) (s ∷ ss) later end = HasRun hs w l s × HaveRun s.values s.world ls ss later end

-- a world that a script opened over these swap areas, before its first line, and that has this property
pub record IsStart (Holds : WorldState → Type 0) (swap : SwapView) (script : ScriptView) (areas : List ℕ) (w : WorldState) : Type 0 where
  pub is_world : IsWorldOf Holds script areas w
  pub events : w.events ≡ []
  pub memory : IsFresh swap w.memory

-- The lines of a script ran in a world that it opened over these swap areas, a step for each line, and led to a world
pub record IsRunOf (Holds : WorldState → Type 0) (swap : SwapView) (script : ScriptView) (areas : List ℕ) (start : WorldState) (steps : List RunStep) (world : WorldState) : Type 0 where
  pub begins : IsStart Holds swap script areas start
  pub values : List HolderView
  pub ran : HaveRun (map fresh_holder script.processes) start script.lines steps values world
