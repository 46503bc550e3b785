-- What a judge finds about a log.
use Rattle.std.specs.Prelude.{◌≡◌, ◌<◌, ◌≤◌, ℕ, List, [], All, length, drop, flat_map}
use Rattle.std.specs.List.{AllPairs}
use Rattle.shm_base.specs.declared.call.Event.{Event}
use Rattle.shm_text.specs.Script.{ScriptView}
use Rattle.shm_outcomes.specs.Keys.{AreOther, Key, key_of}
use Rattle.shm_outcomes.specs.Search.{IfBound}
use Rattle.shm_judge.specs.Logs.{Answer, AllBegin, AllFill}
use Rattle.shm_schedules.specs.Schedules.{Run, Leads, IsSchedule, schedule_of, IsReached, followers}
use Rattle.shm_judge.specs.Stuck.{Stuck}
use Rattle.shm_judge.specs.declared.verdict.Verdict.{Verdict}
use Rattle.shm_judge.specs.declared.verdict.Verdict.TheVariants.{Legal, Illegal}
use Rattle.shm_schedules.specs.declared.search_error.SearchError.{SearchError}

-- these are the calls and replies of a schedule, and the replies are those of the log
abbrev pub IsExplained : ScriptView → List (List Answer) → Run → List Event → Type 0
IsExplained script log first events =
    (end : Run) × IsSchedule script first (schedule_of events) end × (end.events ≡ events) × AllFill script log events

-- no process can continue after the run, and it has all replies of the log
abbrev pub IsWholeIn : ScriptView → List (List Answer) → Run → Type 0
IsWholeIn script log run = (followers script script.processes run ≡ []) × AllFill script log run.events

-- no schedule has the log's replies
abbrev pub IsUnexplained : ScriptView → List (List Answer) → Run → Type 0
IsUnexplained script log first = (schedule : List ℕ) (end : Run) → IsSchedule script first schedule end → AllFill script log end.events → ⊥

-- a run to which a schedule leads, and whose replies are a beginning of the log
abbrev pub IsBeginning : ScriptView → List (List Answer) → Run → Run → Type 0
IsBeginning script log first run = IsReached script first run × AllBegin script log run.events

-- how a run continues: the calls, each with the reply that it would get
abbrev pub newest : Run → Run → List Event
newest run next = drop (length run.events) next.events

abbrev pub stuck_at : ScriptView → Run → Stuck
stuck_at script run = record { events = run.events; next = flat_map (newest run) (followers script script.processes run) }

-- no run that begins the log is longer than this one
pub record IsStuck (script : ScriptView) (log : List (List Answer)) (first : Run) (s : Stuck) : Type 0 where
  pub beginning : (run : Run) × IsBeginning script log first run × (s ≡ stuck_at script run)
  pub longest : (schedule : List ℕ) (run : Run) → Leads script schedule first run → AllBegin script log run.events → length run.events ≤ length s.events

abbrev pub IsRight : ScriptView → List (List Answer) → Run → Verdict → Type 0
IsRight script log first (Legal events) = IsExplained script log first events.items
IsRight script log first (Illegal stuck) = IsUnexplained script log first × IsStuck script log first stuck

-- a run that begins the log has this key
abbrev pub IsKeyOfBeginning : ScriptView → List (List Answer) → Run → Key → Type 0
IsKeyOfBeginning script log first key = (run : Run) × IsBeginning script log first run × (key ≡ key_of script first run)

-- the log has more beginnings than the bound, no two of them with the same key
abbrev pub AreMore : ScriptView → List (List Answer) → Run → ℕ → Type 0
AreMore script log first most = (keys : List Key) × (most < length keys) × All (IsKeyOfBeginning script log first) keys × AllPairs AreOther keys

-- why a judge has no verdict
abbrev pub IsDoubt : ScriptView → List (List Answer) → Run → ℕ → SearchError → Type 0
IsDoubt script log first most error = IfBound (AreMore script log first most) error
