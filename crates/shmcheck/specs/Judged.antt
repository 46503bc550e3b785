-- The verdict that the program writes, or why it writes none.
use Rattle.std.specs.Prelude.{◌≡◌, ℕ, Bool, true, false, List, Ok}
use Rattle.shm_text.specs.Script.{ScriptView}
use Rattle.shm_program.specs.declared.fault.RunFault.TheVariants.{HostMemory}
use Rattle.shm_judge.specs.Judge.{IsRight}
use Rattle.shm_judge.specs.Logs.{Entry}
use Rattle.shm_judge.specs.Reading.{entries_of, log_of}
use Rattle.shm_judge.specs.Report.{verdict_text}
use Rattle.shm_schedules.specs.Schedules.{start}
use Rattle.shm_judge.specs.declared.fault.LogRefused.{LogRefused}
use Rattle.shm_judge.specs.declared.fault.LogRefused.TheVariants as refusals
use Rattle.shm_schedules.specs.declared.search_error.SearchError.{SearchError}
use Rattle.shm_schedules.specs.declared.search_error.SearchError.TheVariants as searches
use Rattle.shm_judge.specs.declared.verdict.Verdict.{Verdict}
use Rattle.shm_judge.specs.declared.verdict.Verdict.TheVariants.{Legal, Illegal}
use Rattle.shmcheck.specs.declared.stop.Stop.{Stop}
use Rattle.shmcheck.specs.declared.stop.Stop.TheVariants.{Fault, BadLog, Doubt}

abbrev pub is_legal : Verdict → Bool
is_legal (Legal events) = true
is_legal (Illegal stuck) = false

-- the text of a correct verdict on the log, and whether the log is legal
abbrev pub IsJudgedText : List ℕ → Bool → ScriptView → List ℕ → List ℕ → Type 0
IsJudgedText log legal script areas text =
    (entries : List Entry)
    × (entries_of script log ≡ Ok entries)
    × ((verdict : Verdict)
    × IsRight script (log_of script entries) (start script areas) verdict
    × (is_legal verdict ≡ legal)
    × (text ≡ verdict_text script (log_of script entries) verdict))

-- why a log was not read, as a stop
abbrev pub log_stop : LogRefused → Stop
log_stop (refusals.Fault fault) = BadLog fault
log_stop refusals.HostMemory = Fault HostMemory

-- why there is no verdict, as a stop
abbrev pub doubt_of : SearchError → ℕ → Stop
doubt_of searches.HostMemory most = Fault HostMemory
doubt_of searches.Bound most = Doubt most
