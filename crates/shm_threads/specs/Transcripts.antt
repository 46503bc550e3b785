-- How transcripts match a history.
use Rattle.std.specs.Prelude.{◌≡◌, ◌≢◌, ◌≤◌, ◌⊎◌, ◌==◌, ℕ, List, [], ◌∷◌, length, map, Bool, true, false, not, ◌&&◌, is_some, if◌then◌else◌, Option, Some, None, MatchBool, All}
use Rattle.std.specs.List.{list_any}
use Rattle.std.specs.Borrow.{Bor}
use Rattle.shm_base.specs.History.{own_part}
use Rattle.shm_base.specs.Calls.{ProcessCall}
use Rattle.shm_base.specs.declared.call.Call.TheVariants.{Fork, Exit}
use Rattle.shm_base.specs.declared.call.Reply.{Reply}
use Rattle.shm_base.specs.declared.call.Reply.TheVariants.{Done, Refused}
use Rattle.shm_base.specs.declared.call.Event.{Event}
use Rattle.shm_base.specs.declared.call.Process.{Process}
use Rattle.shm_base.specs.declared.errno.Errno.TheVariants.{Esrch}
use Rattle.shm_base.specs.Memory.{takes_memory}
use Rattle.shm_base.specs.Processes.{has_pid}
use Rattle.shm_base.specs.State.{Machine}
use Rattle.shm_base.specs.Callers.{caller_of}
use Rattle.shm_history.specs.WorldState.{WorldState}
use Rattle.shm_text.specs.Form.{CommandView}
use Rattle.shm_text.specs.Script.{ScriptView}
use Rattle.shm_text.specs.Variables.{no_values, call_of, values_after}
use Rattle.shm_text.specs.declared.script.Line.{Line}
use Rattle.shm_text.specs.declared.script.Line.TheVariants.{Command, Flush}
use Rattle.shm_threads.specs.declared.transcript.Answer.{Answer}
use Rattle.shm_threads.specs.declared.transcript.Answer.TheVariants.{Reply as Replied, HostMemory}
use Rattle.shm_threads.specs.declared.transcript.Entry.{Entry}
use Rattle.shm_threads.specs.declared.transcript.Transcript.{Transcript}

-- the command lines of a process, in order
abbrev pub commands_of : ℕ → List Line → List CommandView
commands_of pid [] = []
commands_of pid (Flush n ∷ ls) = commands_of pid ls
commands_of pid (Command c ∷ ls) = if c.pid == pid then c ∷ commands_of pid ls else commands_of pid ls

-- the pids of all command lines, in order
abbrev pub callers_of : List Line → List ℕ
callers_of [] = []
callers_of (Flush n ∷ ls) = callers_of ls
callers_of (Command c ∷ ls) = c.pid ∷ callers_of ls

-- the command of a line, if there is one
abbrev pub commands_in : Option (Bor CommandView) → List CommandView
commands_in None = []
commands_in (Some c) = c.now ∷ []

-- out of memory is not a reply
abbrev pub reply_in : Answer → Option Reply
reply_in (Replied r) = Some r
reply_in HostMemory = None

-- the process ends with this call and answer
abbrev pub is_end : ProcessCall → Answer → Bool
is_end Exit (Replied Done) = true
is_end _ _ = false

-- The entries follow the command lines from these variables. Each has its line's call, with the variables that earlier answers
-- set. They end with the last line, or with the first successful exit
abbrev pub Follows : List (Option ℕ) → List CommandView → List Entry → Type 0
Follows values [] [] = Unit {0}
Follows values [] (e ∷ es) = ⊥
Follows values (c ∷ cs) [] = ⊥
Follows values (c ∷ cs) (e ∷ es) =
    (e.call ≡ call_of values c.call)
    × MatchBool (is_end e.call e.answer) (es ≡ []) (Follows (values_after values c.var (reply_in e.answer)) cs es)

-- a call with a reply is an event of its process; one that ran out of memory is not
abbrev pub events_of : ℕ → ProcessCall → Answer → List Event → List Event
events_of pid call (Replied r) rest = record { pid = pid; call = call; reply = r } ∷ rest
events_of pid call HostMemory rest = rest

-- the events of a transcript
abbrev pub transcript_events : ℕ → List Entry → List Event
transcript_events pid [] = []
transcript_events pid (e ∷ es) = events_of pid e.call e.answer (transcript_events pid es)

-- the call is a successful fork of this child
abbrev pub is_fork_of : ℕ → ProcessCall → Reply → Bool
is_fork_of child (Fork c) Done = c == child
is_fork_of child _ _ = false

abbrev pub is_forked : ℕ → List Event → Bool
is_forked child history = list_any (λ (e : Event). is_fork_of child e.call e.reply) history

-- the pid is declared as a child's
abbrev pub is_child : ℕ → List Process → Bool
is_child pid processes = list_any (λ (p : Process). p.pid == pid && not (is_some p.born)) processes

abbrev pub pid_in : Process → ℕ
pid_in p = p.pid

abbrev pub pid_of : Transcript → ℕ
pid_of t = t.pid

-- the transcript follows its process's lines, or is empty and that of a child that was never born
abbrev pub HasLines : ScriptView → List Event → Transcript → Type 0
HasLines script history t =
    Follows no_values (commands_of t.pid script.lines) t.entries.items
    ⊎ ((is_child t.pid script.processes ≡ true) × (t.entries.items ≡ []) × (is_forked t.pid history ≡ false))

-- only a call that may take memory is marked as out of memory
abbrev pub IsMarkAllowed : Entry → Type 0
IsMarkAllowed e = e.answer ≡ HostMemory → takes_memory e.call ≡ true

-- One transcript is right: without its marked entries it is its process's own part of the history
pub record IsTranscript (script : ScriptView) (history : List Event) (t : Transcript) : Type 0 where
  pub lines : HasLines script history t
  pub own : transcript_events t.pid t.entries.items ≡ own_part t.pid history
  pub marks : All IsMarkAllowed t.entries.items

-- the transcript keeps its entries, or does not
abbrev pub HasEntries : Bool → Transcript → Type 0
HasEntries is_kept t = t.entries.is_kept ≡ is_kept

-- The event is one of a declared process that was live
pub record IsAdmitted (processes : List Process) (e : Event) : Type 0 where
  pub declared : has_pid e.pid processes ≡ true
  pub live : e.reply ≢ Refused Esrch

-- there is one transcript for each process of the script, in its order
abbrev pub AreListed : ScriptView → List Transcript → Type 0
AreListed script all = map pid_of all ≡ map pid_in script.processes

-- a process that is live at the end has made all its lines
abbrev pub IsThrough : ScriptView → Machine → Transcript → Type 0
IsThrough script machine t = is_some (caller_of machine t.pid) ≡ true → length (commands_of t.pid script.lines) ≤ length t.entries.items

-- All transcripts are right: there is one for each process, in the script's order, no live process has a line left, and the
-- history has no events of others
pub record AreTranscripts (script : ScriptView) (world : WorldState) (all : List Transcript) : Type 0 where
  pub processes : AreListed script all
  pub each : All (IsTranscript script world.events) all
  pub through : All (IsThrough script world.machine) all
  pub events : All (IsAdmitted script.processes) world.events
