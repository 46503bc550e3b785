-- The printed text of outcomes.
use Rattle.std.specs.Prelude.{ℕ, Bool, ◌+◌, List, [], ◌∷◌, ◌++◌, codes, flat_map, length}
use Rattle.std.specs.Fmt.{decimal}
use Rattle.shm_base.specs.History.{own_part}
use Rattle.shm_base.specs.declared.call.Event.{Event}
use Rattle.shm_base.specs.declared.call.Process.{Process}
use Rattle.shm_text.specs.Script.{ScriptView}
use Rattle.shm_schedules.specs.Finding.{Finding}
use Rattle.shm_schedules.specs.Text.{line_as, schedule_text}

-- the lines of one process
abbrev pub process_text : Bool → List Event → Process → List ℕ
process_text masks events p = flat_map (line_as masks) (own_part p.pid events)

-- an outcome: its number, the lines of each process, and a schedule that has it
abbrev pub finding_text : Bool → ScriptView → ℕ → Finding → List ℕ
finding_text masks script n f =
    codes "outcome " ++ (decimal n ++ (codes "\n" ++ (flat_map (process_text masks f.events) script.processes ++ schedule_text f.events)))

-- the outcomes, numbered from n
abbrev pub findings_text : Bool → ScriptView → ℕ → List Finding → List ℕ
findings_text masks script n [] = []
findings_text masks script n (f ∷ found) = finding_text masks script n f ++ findings_text masks script (n + 1) found

-- all outcomes, and their number
abbrev pub outcomes_text : Bool → ScriptView → List Finding → List ℕ
outcomes_text masks script found = findings_text masks script 1 found ++ (codes "outcomes " ++ (decimal (length found) ++ codes "\n"))
