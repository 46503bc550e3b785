-- Why the program stops: its message and its exit status.
use Rattle.std.specs.Prelude.{ℕ, List, ◌++◌, codes}
use Rattle.std.specs.Fmt.{decimal}
use Rattle.std.specs.declared.io.ErrorKind.{ErrorKind}
use Rattle.std.specs.declared.io.ErrorKind.TheVariants.{OutOfMemory}
use Rattle.shm_program.specs.Faults.{fault_text, exit_status}
use Rattle.shm_program.specs.declared.fault.RunFault.TheVariants.{HostMemory}
use Rattle.shm_schedules.specs.declared.search_error.SearchError.{SearchError}
use Rattle.shm_schedules.specs.declared.search_error.SearchError.TheVariants as searches
use Rattle.shm_judge.specs.declared.fault.LogFaultKind.{LogFaultKind}
use Rattle.shm_judge.specs.declared.fault.LogFaultKind.TheVariants.{BadLine, UnknownProcess}
use Rattle.shm_conditions.specs.declared.fault.ConditionFaultKind.{ConditionFaultKind}
use Rattle.shm_conditions.specs.declared.fault.ConditionFaultKind.TheVariants.{NoOperand, NoOperator, Unopened, Unclosed, BadWord, UnknownProcess, UnknownLine}
use Rattle.shmcheck.specs.declared.stop.Stop.{Stop}
use Rattle.shmcheck.specs.declared.stop.Stop.TheVariants.{Usage, Fault, Bound, LogUnread, BadLog, Doubt, BadCondition}

abbrev pub kind_name : LogFaultKind → List ℕ
kind_name BadLine = codes "bad line"
kind_name UnknownProcess = codes "unknown process"

abbrev pub condition_fault_name : ConditionFaultKind → List ℕ
condition_fault_name NoOperand = codes "P:N=REPLY, ~ or ( is missing"
condition_fault_name NoOperator = codes "/\\, \\/ or ) is missing"
condition_fault_name Unopened = codes ") without ("
condition_fault_name Unclosed = codes "( without )"
condition_fault_name BadWord = codes "not of the form P:N=REPLY"
condition_fault_name UnknownProcess = codes "the script declares no such process"
condition_fault_name UnknownLine = codes "the process has no such line"

abbrev pub stop_text : Stop → List ℕ
stop_text Usage = codes "usage: shmcheck outcomes|judge LOG|sample SEED [--exists|--forbid CONDITION] [--rules profile|linux] [--at-most N] [--masked] [--runs N]"
stop_text (Fault fault) = fault_text fault
stop_text (Bound most) = codes "undecided: more than " ++ (decimal most ++ codes " runs, no two of them alike")
stop_text LogUnread = codes "the log can't be read"
stop_text (BadLog fault) = codes "log line " ++ (decimal fault.line ++ (codes ": " ++ kind_name fault.kind))
stop_text (BadCondition fault) = codes "condition, byte " ++ (decimal fault.at ++ (codes ": " ++ condition_fault_name fault.kind))
stop_text (Doubt most) = codes "undecided: more than " ++ (decimal most ++ codes " beginnings of the log")

-- 1 for a fault of the log, 2 for one of a condition, 5 at the bound
abbrev pub stop_status : Stop → ℕ
stop_status Usage = 2
stop_status (Fault fault) = exit_status fault
stop_status (Bound most) = 5
stop_status LogUnread = 3
stop_status (BadLog fault) = 1
stop_status (Doubt most) = 5
stop_status (BadCondition fault) = 2

-- the words could not be read: the host refused memory, or a word is not valid UTF-8
abbrev pub io_stop : ErrorKind → Stop
io_stop OutOfMemory = Fault HostMemory
io_stop _ = Usage

-- why a search has no result, as a stop
abbrev pub stop_of : SearchError → ℕ → Stop
stop_of searches.HostMemory most = Fault HostMemory
stop_of searches.Bound most = Bound most

-- a log that can't be read: the host refused memory, or the file can't be
abbrev pub log_unread : ErrorKind → Stop
log_unread OutOfMemory = Fault HostMemory
log_unread _ = LogUnread
