-- Which reply a word `P:N=REPLY` is about.
use Rattle.std.specs.Prelude.{ℕ, suc, ◌+◌, ◌-◌, ◌==◌, nat_lt, if◌then◌else◌, List, [], ◌∷◌, length, Option, Some, None, Result, Ok, Err}
use Rattle.shm_base.specs.declared.call.Process.{Process}
use Rattle.shm_text.specs.Number.{decimal_of}
use Rattle.shm_text.specs.Script.{ScriptView}
use Rattle.shm_text.specs.declared.script.Line.{Line}
use Rattle.shm_text.specs.declared.script.Line.TheVariants.{Command, Flush}
use Rattle.shm_schedules.specs.Cuts.{past, until}
use Rattle.shm_conditions.specs.declared.fault.ConditionFaultKind.{ConditionFaultKind}
use Rattle.shm_conditions.specs.declared.fault.ConditionFaultKind.TheVariants.{BadWord, UnknownProcess, UnknownLine}
use Rattle.shm_conditions.specs.declared.naming.ProcessLine.{ProcessLine}

-- the place of a process among those from a place on
abbrev pub place_from : ℕ → ℕ → List Process → Option ℕ
place_from place number [] = None
place_from place number (p ∷ ps) = if p.pid == number then Some place else place_from (place + 1) number ps

-- how many lines a process has
abbrev pub count_lines : ℕ → List Line → ℕ
count_lines pid [] = 0
count_lines pid (Command c ∷ lines) = if c.pid == pid then suc (count_lines pid lines) else count_lines pid lines
count_lines pid (Flush pages ∷ lines) = count_lines pid lines

-- the line of a process with a number from 1
abbrev pub line_named : ScriptView → ℕ → ℕ → Option ℕ → Result ProcessLine ConditionFaultKind
line_named script pid number None = Err UnknownProcess
line_named script pid number (Some place) =
    if number == 0 then Err UnknownLine else
    if nat_lt (count_lines pid script.lines) number then Err UnknownLine else
    Ok (record { process = place; line = number - 1 })

abbrev pub numbers_named : ScriptView → Option ℕ → Option ℕ → Result ProcessLine ConditionFaultKind
numbers_named script None number = Err BadWord
numbers_named script (Some pid) None = Err BadWord
numbers_named script (Some pid) (Some number) = line_named script pid number (place_from 0 pid script.processes)

-- the word of the reply, after the equality sign
abbrev pub reply_in : List ℕ → List ℕ
reply_in word = past 61 word

-- a pid, a colon, the number of a line of the process, and an equality sign before the word of the reply
abbrev pub line_in : ScriptView → List ℕ → Result ProcessLine ConditionFaultKind
line_in script word =
    if length (reply_in word) == 0
    then Err BadWord
    else numbers_named script (decimal_of (until 58 word)) (decimal_of (until 61 (past 58 word)))
