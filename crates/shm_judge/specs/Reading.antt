-- Reading a log, line by line.
use Rattle.std.specs.Prelude.{◌≡◌, ℕ, ◌+◌, ◌==◌, Bool, true, is_some, if◌then◌else◌, List, [], ◌∷◌, ◌++◌, map, filter, length, Option, Some, None, Result, Ok, Err}
use Rattle.shm_base.specs.declared.call.Process.{Process}
use Rattle.shm_schedules.specs.Cuts.{past, until}
use Rattle.shm_text.specs.Number.{decimal_of}
use Rattle.shm_text.specs.Script.{ScriptView}
use Rattle.shm_judge.specs.Logs.{Answer, Entry}
use Rattle.shm_judge.specs.declared.fault.LogFault.{LogFault}
use Rattle.shm_judge.specs.declared.fault.LogFaultKind.{LogFaultKind}
use Rattle.shm_judge.specs.declared.fault.LogFaultKind.TheVariants.{BadLine, UnknownProcess}

-- a line without its place, if it has one: then its second word is a number too
abbrev pub bare : List ℕ → List ℕ
bare line = if is_some (decimal_of (until 32 (past 32 line))) then past 32 line else line

-- the reply: the words after `= `
abbrev pub reply_in : List ℕ → List ℕ
reply_in line = past 32 (past 61 line)

-- the line is empty, or a comment
abbrev pub is_skipped : List ℕ → Bool
is_skipped [] = true
is_skipped (b ∷ bs) = b == 35

-- the declared process with this number
abbrev pub declared_as : List Process → ℕ → Option ℕ
declared_as [] number = None
declared_as (p ∷ ps) number = if p.pid == number then Some p.pid else declared_as ps number

abbrev pub answered_by : List ℕ → List ℕ → Option ℕ → Result Entry LogFaultKind
answered_by line reply None = Err UnknownProcess
answered_by line reply (Some pid) = if length reply == 0 then Err BadLine else Ok (record { pid = pid; answer = record { line = line; reply = reply } })

abbrev pub numbered : List Process → List ℕ → Option ℕ → Result Entry LogFaultKind
numbered processes line None = Err BadLine
numbered processes line (Some number) = answered_by line (reply_in line) (declared_as processes number)

-- the entry of a line that is not skipped
abbrev pub said : List Process → List ℕ → Result Entry LogFaultKind
said processes line = numbered processes line (decimal_of (until 32 line))

-- entries before those of the later lines
abbrev pub all_before : List Entry → Result (List Entry) LogFault → Result (List Entry) LogFault
all_before entries (Ok more) = Ok (entries ++ more)
all_before entries (Err fault) = Err fault

abbrev pub one_said : ℕ → Result Entry LogFaultKind → Result (List Entry) LogFault
one_said number (Err kind) = Err (record { line = number; kind = kind })
one_said number (Ok e) = Ok (e ∷ [])

-- the entries of a line with this number
abbrev pub line_says : List Process → ℕ → List ℕ → Result (List Entry) LogFault
line_says processes number line = if is_skipped line then Ok [] else one_said number (said processes (bare line))

abbrev pub joined : Result (List Entry) LogFault → Result (List Entry) LogFault → Result (List Entry) LogFault
joined (Ok entries) rest = all_before entries rest
joined (Err fault) rest = Err fault

-- the entries of these lines, of which the first has this number, or the first fault
abbrev pub entries_from : List Process → ℕ → List (List ℕ) → Result (List Entry) LogFault
entries_from processes number [] = Ok []
entries_from processes number (line ∷ lines) = joined (line_says processes number line) (entries_from processes (number + 1) lines)

-- a line's entries were appended to others
abbrev pub IsSaid : Result (List Entry) LogFault → List Entry → List Entry → Type 0
IsSaid says olds news = (entries : List Entry) × (says ≡ Ok entries) × (news ≡ olds ++ entries)

abbrev pub with_first : ℕ → List (List ℕ) → List (List ℕ)
with_first b [] = (b ∷ []) ∷ []
with_first b (line ∷ lines) = (b ∷ line) ∷ lines

-- the lines of a text
abbrev pub lines_in : List ℕ → List (List ℕ)
lines_in [] = []
lines_in (b ∷ bs) = if b == 10 then [] ∷ lines_in bs else with_first b (lines_in bs)

-- the entries of a log, or its first fault
abbrev pub entries_of : ScriptView → List ℕ → Result (List Entry) LogFault
entries_of script text = entries_from script.processes 1 (lines_in text)

abbrev pub answer_in : Entry → Answer
answer_in e = e.answer

-- the replies to one process, in order
abbrev pub own_answers : List Entry → ℕ → List Answer
own_answers entries pid = map answer_in (filter (λ (e : Entry). e.pid == pid) entries)

-- the replies to each declared process, in the script's order
abbrev pub log_of : ScriptView → List Entry → List (List Answer)
log_of script entries = map (λ (p : Process). own_answers entries p.pid) script.processes
