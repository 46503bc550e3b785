-- The replies that a script gets from the flat machine alone, which has no frames, swap areas or pagers.
use Rattle.std.specs.Prelude.{ℕ, ◌+◌, List, [], ◌∷◌, ◌++◌, map, Some}
use Rattle.shm_base.specs.declared.call.Event.{Event}
use Rattle.shm_base.specs.State.{Machine, start_of}
use Rattle.shm_base.specs.Callers.{Outcome}
use Rattle.shm_base.specs.Step.{step}
use Rattle.shm_history.specs.WorldState.{event}
use Rattle.shm_print.specs.Text.{events_text}
use Rattle.shm_program.specs.Listing.{listing_of}
use Rattle.shm_text.specs.Form.{CommandView}
use Rattle.shm_text.specs.Script.{ScriptView}
use Rattle.shm_text.specs.Variables.{call_of}
use Rattle.shm_text.specs.declared.script.Line.{Line}
use Rattle.shm_text.specs.declared.script.Line.TheVariants.{Command, Flush}
use Rattle.shm_program.specs.Values.{HolderView, fresh_holder, values_of, with_answer}
use Rattle.shm_program.specs.Runs.{opening_of}

-- the step of a line, with the variables of its process
abbrev pub line_step : Machine → ℕ → List HolderView → CommandView → Outcome
line_step s n hs c = step s n c.pid (call_of (values_of hs c.pid) c.call)

-- the variables after that step's reply
abbrev pub holders_after : Machine → ℕ → List HolderView → CommandView → List HolderView
holders_after s n hs c = with_answer hs c (Some (line_step s n hs c).reply)

-- the events of the lines, of which the first is at place n, from this state and with these variables
abbrev pub flat_events : ℕ → Machine → List HolderView → List Line → List Event
flat_events n s hs [] = []
flat_events n s hs (Flush pages ∷ ls) = flat_events n s hs ls
flat_events n s hs (Command c ∷ ls) =
    event c.pid (call_of (values_of hs c.pid) c.call) (line_step s n hs c).reply ∷ flat_events (n + 1) (line_step s n hs c).state (holders_after s n hs c) ls

-- the state at the end of the lines
abbrev pub flat_end : ℕ → Machine → List HolderView → List Line → Machine
flat_end n s hs [] = s
flat_end n s hs (Flush pages ∷ ls) = flat_end n s hs ls
flat_end n s hs (Command c ∷ ls) = flat_end (n + 1) (line_step s n hs c).state (holders_after s n hs c) ls

-- the event lines and the listing of a script over areas of these sizes
abbrev pub flat_text : ScriptView → List ℕ → List ℕ
flat_text script areas =
    let start = start_of (opening_of script areas) in
    let hs = map fresh_holder script.processes in
    events_text 1 (flat_events 1 start hs script.lines) ++ listing_of (flat_end 1 start hs script.lines)
