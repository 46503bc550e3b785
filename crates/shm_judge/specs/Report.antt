-- The printed text of a verdict.
use Rattle.std.specs.Prelude.{ℕ, ◌+◌, List, [], ◌∷◌, ◌++◌, codes, drop, flat_map, length, slice_index_or}
use Rattle.shm_base.specs.declared.call.Event.{Event}
use Rattle.shm_base.specs.declared.call.Process.{Process}
use Rattle.shm_text.specs.Script.{ScriptView}
use Rattle.shm_judge.specs.Logs.{Answer}
use Rattle.shm_schedules.specs.Schedules.{replies_to}
use Rattle.shm_judge.specs.Stuck.{Stuck}
use Rattle.shm_schedules.specs.Text.{line_text, schedule_text}
use Rattle.shm_judge.specs.declared.verdict.Verdict.{Verdict}
use Rattle.shm_judge.specs.declared.verdict.Verdict.TheVariants.{Legal, Illegal}

abbrev pub first_text : List Answer → List ℕ
first_text [] = []
first_text (a ∷ answers) = codes "answered " ++ (a.line ++ codes "\n")

-- the next line of the log for each of these processes, of which the first is at index i
abbrev pub answers_text : List (List Answer) → List Event → ℕ → List Process → List ℕ
answers_text log events i [] = []
answers_text log events i (p ∷ ps) =
    first_text (drop (length (replies_to p.pid events)) (slice_index_or log i [])) ++ answers_text log events (i + 1) ps

abbrev pub possible_text : Event → List ℕ
possible_text e = codes "possible " ++ line_text e

-- a longest beginning, its schedule, the log's next line of each process, and the replies that are possible there
abbrev pub stuck_text : ScriptView → List (List Answer) → Stuck → List ℕ
stuck_text script log s =
    flat_map line_text s.events ++ (schedule_text s.events ++ (answers_text log s.events 0 script.processes ++ flat_map possible_text s.next))

abbrev pub verdict_text : ScriptView → List (List Answer) → Verdict → List ℕ
verdict_text script log (Legal events) = codes "legal\n" ++ schedule_text events.items
verdict_text script log (Illegal stuck) = codes "illegal\n" ++ stuck_text script log stuck
