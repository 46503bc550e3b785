-- What the program writes for what it is asked, or why it writes nothing.
use Rattle.std.specs.Prelude.{◌≡◌, ◌⊎◌, ℕ, Bool, true, false, List, Option, Some, Ok, Err}
use Rattle.std.specs.Io.KnownBytes.{Keeps}
use Rattle.shm_text.specs.Script.{ScriptView}
use Rattle.shm_life.specs.declared.start.StartError.{StartError}
use Rattle.shm_life.specs.Start.{start_error, error_number}
use Rattle.shm_program.specs.Ends.{is_reading}
use Rattle.shm_program.specs.Runs.{IsCause, IsReadAs, IsSilent, Prints}
use Rattle.shm_program.specs.declared.fault.RunFault.TheVariants.{StartRefused, WriteFailed, HostMemory}
use Rattle.shm_program.specs.declared.fault.RunFault.{RunFault}
use Rattle.shm_schedules.specs.Schedules.{start}
use Rattle.shm_outcomes.specs.Search.{AreMoreRuns}
use Rattle.shm_judge.specs.Judge.{AreMore}
use Rattle.shm_judge.specs.Logs.{Entry}
use Rattle.shm_judge.specs.Reading.{entries_of, log_of}
use Rattle.shm_judge.specs.declared.fault.LogFault.{LogFault}
use Rattle.shm_conditions.specs.Reading.{condition_of}
use Rattle.shm_conditions.specs.declared.fault.ConditionFault.{ConditionFault}
use Rattle.shmcheck.specs.Judged.{IsJudgedText}
use Rattle.shmcheck.specs.Printed.{IsOutcomesText}
use Rattle.shmcheck.specs.Questioned.{IsQuestionAnswer}
use Rattle.shmcheck.specs.Ruled.{under}
use Rattle.shmcheck.specs.Sampled.{IsSamplesText}
use Rattle.shmcheck.specs.declared.command.Asked.{Asked}
use Rattle.shmcheck.specs.declared.command.Asked.TheVariants.{Outcomes, Question, Judge, Sample}
use Rattle.shmcheck.specs.declared.ruling.RuleSet.{RuleSet}
use Rattle.shmcheck.specs.declared.stop.Stop.{Stop}
use Rattle.shmcheck.specs.declared.stop.Stop.TheVariants.{Fault, Bound, BadLog, Doubt, BadCondition}

-- THE ANSWER

-- the exit status of a verdict
abbrev pub verdict_status : Bool → ℕ
verdict_status true = 0
verdict_status false = 6

-- this text and this exit status answer what was asked about a script over swap areas of these sizes, and about a log or a
-- condition
abbrev pub IsAnswer : Asked → List ℕ → ℕ → ScriptView → List ℕ → List ℕ → Type 0
IsAnswer (Outcomes o) given status script areas text = (status ≡ 0) × IsOutcomesText o.masked script areas text
IsAnswer (Question wish o) given status script areas text = IsQuestionAnswer wish given status script areas text
IsAnswer (Judge o) given status script areas text = (legal : Bool) × (status ≡ verdict_status legal) × IsJudgedText given legal script areas text
IsAnswer (Sample d) given status script areas text = (status ≡ 0) × IsSamplesText d.seed d.runs script areas text

abbrev pub rules_asked : Asked → RuleSet
rules_asked (Outcomes o) = o.rules
rules_asked (Question wish o) = o.rules
rules_asked (Judge o) = o.rules
rules_asked (Sample d) = d.rules

-- the same, and the script is opened with the rules that were asked for
abbrev pub IsRuledAnswer : Asked → List ℕ → ℕ → ScriptView → List ℕ → List ℕ → Type 0
IsRuledAnswer asked given status script = IsAnswer asked given status (under (rules_asked asked) script)

-- the input is a script, and its answer was written, for this exit status
abbrev pub IsAnswered :
    Asked → List ℕ → List ℕ → Option (List ℕ) → Option (List ℕ) → Option (List ℕ) → ℕ → Type 0
IsAnswered asked given areas input old new status =
    Prints (IsRuledAnswer asked given status) old new areas input

-- with any exit status
abbrev pub IsAnyAnswer : Asked → List ℕ → ScriptView → List ℕ → List ℕ → Type 0
IsAnyAnswer asked given script areas text = (status : ℕ) × IsRuledAnswer asked given status script areas text

-- NO ANSWER

-- schedules of the script lead to more beginnings than the bound of a list or a question, no two of them the same
abbrev pub IsOverBound : Asked → ℕ → List ℕ → ScriptView → Type 0
IsOverBound (Outcomes o) n areas script = (n ≡ o.most) × AreMoreRuns script (start script areas) n
IsOverBound (Question wish o) n areas script = (n ≡ o.most) × AreMoreRuns script (start script areas) n
IsOverBound (Judge o) n areas script = ⊥
IsOverBound (Sample d) n areas script = ⊥

-- the log of a judge has this first fault
abbrev pub IsBadLog : Asked → List ℕ → LogFault → ScriptView → Type 0
IsBadLog (Outcomes o) given fault script = ⊥
IsBadLog (Question wish o) given fault script = ⊥
IsBadLog (Judge o) given fault script = entries_of script given ≡ Err fault
IsBadLog (Sample d) given fault script = ⊥

-- the log has more prefixes than the bound of a judge, no two of them equivalent
abbrev pub IsDoubtful : Asked → List ℕ → ℕ → List ℕ → ScriptView → Type 0
IsDoubtful (Outcomes o) given n areas script = ⊥
IsDoubtful (Question wish o) given n areas script = ⊥
IsDoubtful (Judge o) given n areas script =
    (n ≡ o.most) × ((entries : List Entry) × (entries_of script given ≡ Ok entries) × AreMore script (log_of script entries) (start script areas) n)
IsDoubtful (Sample d) given n areas script = ⊥

-- the condition of a question has this first fault
abbrev pub IsBadCondition : Asked → List ℕ → ConditionFault → ScriptView → Type 0
IsBadCondition (Outcomes o) given fault script = ⊥
IsBadCondition (Question wish o) given fault script = condition_of script given ≡ Err fault
IsBadCondition (Judge o) given fault script = ⊥
IsBadCondition (Sample d) given fault script = ⊥

-- the machine was not opened because of the first start error; or memory was refused
abbrev pub IsRefused : RunFault → List ℕ → ScriptView → Type 0
IsRefused (StartRefused n) areas script =
    (e : StartError) × (start_error script.limits areas script.processes ≡ Some e) × (error_number e ≡ n)
IsRefused HostMemory areas script = Unit {0}
IsRefused _ areas script = ⊥

-- why there is no answer about a script
abbrev pub IsStopIn : Stop → Asked → List ℕ → List ℕ → ScriptView → Type 0
IsStopIn (Fault fault) asked given areas script = IsRefused fault areas script
IsStopIn (Bound n) asked given areas script = IsOverBound asked n areas script
IsStopIn (BadLog fault) asked given areas script = IsBadLog asked given fault script
IsStopIn (Doubt n) asked given areas script = IsDoubtful asked given n areas script
IsStopIn (BadCondition fault) asked given areas script = IsBadCondition asked given fault script
IsStopIn _ asked given areas script = ⊥

-- the input was not read, or it is not a script and has this first fault
abbrev pub IsUnread : Stop → List ℕ → Option (List ℕ) → Type 0
IsUnread (Fault fault) areas input = (is_reading fault ≡ true) × IsCause fault areas input
IsUnread _ areas input = ⊥

-- why the answer about an input is not written: the input is no script, there is no answer, or the writer failed
abbrev pub IsStopOf : Stop → Asked → List ℕ → List ℕ → Option (List ℕ) → Type 0
IsStopOf stop asked given areas input =
    IsUnread stop areas input
    ⊎ ((script : ScriptView)
    × IsReadAs input (Ok script)
    × (IsStopIn stop asked given areas (under (rules_asked asked) script) ⊎ (stop ≡ Fault WriteFailed)))

-- nothing is written; or if the writer failed, a beginning of a text with this property, and not all of it
abbrev pub WritesNothing : (List ℕ → Type 0) → Stop → Option (List ℕ) → Option (List ℕ) → Type 0
WritesNothing IsText (Fault fault) old new = IsSilent IsText fault old new
WritesNothing IsText _ old new = Keeps old new
