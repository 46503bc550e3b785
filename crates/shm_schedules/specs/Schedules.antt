-- Schedules: the processes of a script run their lines one at a time, in any order. Flush lines change no reply and are left out.
use Rattle.std.specs.Prelude.{◌≡◌, ℕ, ◌+◌, ◌==◌, ◌&&◌, Bool, List, [], ◌∷◌, ◌++◌, map, length, Option, Some, None, is_some, option_and_then, option_map, flat_map, if◌then◌else◌}
use Rattle.shm_base.specs.State.{Machine, start_of}
use Rattle.shm_base.specs.Callers.{caller_of}
use Rattle.shm_base.specs.Step.{step}
use Rattle.shm_base.specs.History.{own_part}
use Rattle.shm_base.specs.Processes.{has_pid}
use Rattle.shm_base.specs.Calls.{ProcessCall}
use Rattle.shm_base.specs.declared.call.Event.{Event}
use Rattle.shm_base.specs.declared.call.Process.{Process}
use Rattle.shm_base.specs.declared.call.Reply.{Reply}
use Rattle.shm_text.specs.Script.{ScriptView}
use Rattle.shm_text.specs.Variables.{no_values, call_of, values_after}
use Rattle.shm_text.specs.declared.script.Line.{Line}
use Rattle.shm_text.specs.declared.script.Line.TheVariants.{Command, Flush}

-- a run so far: the calls with their replies, and the machine at its end
pub record Run : Type 0 where
  pub machine : Machine
  pub events : List Event

-- the run before the first line
abbrev pub fresh : Machine → Run
fresh machine = record { machine = machine; events = [] }

-- the run before the first line, when a script opens the machine over swap areas of these sizes
abbrev pub start : ScriptView → List ℕ → Run
start script areas = fresh (start_of (record { limits = script.limits; areas = areas; processes = script.processes }))

abbrev pub reply_of : Event → Reply
reply_of e = e.reply

-- the replies to a process so far, in order
abbrev pub replies_to : ℕ → List Event → List Reply
replies_to pid events = map reply_of (own_part pid events)

-- the call of the first line of a process that has no reply yet, with the variables that earlier replies set
abbrev pub next_call : ℕ → List (Option ℕ) → List Line → List Reply → Option ProcessCall
next_call pid values [] replies = None
next_call pid values (Flush pages ∷ lines) replies = next_call pid values lines replies
next_call pid values (Command c ∷ lines) [] =
    if c.pid == pid then Some (call_of values c.call) else next_call pid values lines []
next_call pid values (Command c ∷ lines) (r ∷ replies) =
    if c.pid == pid
    then next_call pid (values_after values c.var (Some r)) lines replies
    else next_call pid values lines (r ∷ replies)

-- the process is born and has not ended
abbrev pub is_live : Machine → ℕ → Bool
is_live machine pid = is_some (caller_of machine pid)

-- the call that a process makes next: none if it is not declared, not born yet or ended, or has no line left
abbrev pub next : ScriptView → Run → ℕ → Option ProcessCall
next script run pid =
    if has_pid pid script.processes && is_live run.machine pid
    then next_call pid no_values script.lines (replies_to pid run.events)
    else None

-- a run after one more call of a process
abbrev pub after : Run → ℕ → ProcessCall → Run
after run pid call =
    let outcome = step run.machine (length run.events + 1) pid call in
    record {
      machine = outcome.state;
      events = run.events ++ record { pid = pid; call = call; reply = outcome.reply } ∷ [];
    }

-- a run after the next line of a process, if it can continue
abbrev pub goes : ScriptView → ℕ → Run → Option Run
goes script pid run = option_map (after run pid) (next script run pid)

-- a schedule is a list of pids; it leads from one run to another by the next line of each process that it names
abbrev pub Leads : ScriptView → List ℕ → Run → Run → Type 0
Leads script [] old new = old ≡ new
Leads script (pid ∷ schedule) old new = (mid : Run) × (goes script pid old ≡ Some mid) × Leads script schedule mid new

-- no process can continue
abbrev pub IsOver : ScriptView → Run → Type 0
IsOver script run = (pid : ℕ) → goes script pid run ≡ None

-- a schedule of a script: it leads from a first run to one after which no process can continue
abbrev pub IsSchedule : ScriptView → Run → List ℕ → Run → Type 0
IsSchedule script first schedule end = Leads script schedule first end × IsOver script end

abbrev pub pid_of : Event → ℕ
pid_of e = e.pid

-- the schedule of a run
abbrev pub schedule_of : List Event → List ℕ
schedule_of events = map pid_of events

-- the run to which a schedule leads
abbrev pub walked : ScriptView → List ℕ → Run → Option Run
walked script [] run = Some run
walked script (pid ∷ schedule) run = option_and_then (walked script schedule) (goes script pid run)

-- the runs that extend a run by one call
abbrev pub one_run : Option Run → List Run
one_run None = []
one_run (Some run) = run ∷ []

abbrev pub followers : ScriptView → List Process → Run → List Run
followers script processes run = flat_map (λ (p : Process). one_run (goes script p.pid run)) processes

-- the run comes of the schedule that its events name
abbrev pub IsReached : ScriptView → Run → Run → Type 0
IsReached script first run = Leads script (schedule_of run.events) first run
