-- Why a run with threads has no outcome.
use Rattle.std.specs.Prelude.{◌≡◌, ◌<◌, ◌⊎◌, ℕ, Bool, true, false, List, length, Option, Some, None, Result, Ok, Err, min, nat_lt, All}
use Rattle.shm_base.specs.Processes.{has_pid}
use Rattle.shm_history.specs.WorldState.{WorldState}
use Rattle.shm_text.specs.Script.{ScriptView}
use Rattle.shm_threads.specs.Asked.{IsWithin, rounds_of}
use Rattle.shm_threads.specs.Moves.{Leads, Moment, entries_in, rounds_in}
use Rattle.shm_threads.specs.Passed.{Passes}
use Rattle.shm_threads.specs.Transcripts.{AreListed, HasLines, commands_of}
use Rattle.shm_threads.specs.declared.outcome.RunError.{RunError}
use Rattle.shm_threads.specs.declared.outcome.RunError.TheVariants.{HostMemory, GateExpired, HistoryMismatch, ThreadRefused}
use Rattle.shm_threads.specs.declared.transcript.Transcript.{Transcript}

-- A thread of the script has an n-th call: the flusher, whose pid is 0, makes one for each flush line, and a process one for
-- each of its command lines
abbrev pub HasCall : ScriptView → ℕ → ℕ → Type 0
HasCall script pid n =
    ((pid ≡ 0) × IsWithin n (length (rounds_of script.lines)))
    ⊎ ((has_pid pid script.processes ≡ true) × IsWithin n (length (commands_of pid script.lines)))

-- the gate ended a thread of the script before a call that it has
pub record IsEnded (answers : ℕ → ℕ → Bool → Bool) (script : ScriptView) (pid : ℕ) : Type 0 where
  pub call : ℕ
  pub has : HasCall script pid call
  pub ended : answers pid call false ≡ true

-- THE CAUSE of an expired gate: it ended this thread, and none with a lesser pid. So there are the moves of a run, from the world
-- that was passed in, once room was reserved there. The gate passed each of its calls. Each process with a lesser pid followed
-- its lines, and all rounds were made, unless the thread is the flusher, whose pid is 0
pub record IsExpired (answers : ℕ → ℕ → Bool → Bool) (script : ScriptView) (passed : WorldState) (pid : ℕ) : Type 0 where
  pub here : IsEnded answers script pid
  pub room : ℕ
  pub moments : List Moment
  pub world : WorldState
  pub all : List Transcript
  pub leads : Leads (record passed { room = room }) moments world
  pub processes : AreListed script all
  pub entries : All (λ (t : Transcript). t.entries.items ≡ entries_in t.pid moments) all
  pub calls : All (λ (t : Transcript). Passes answers t.pid (length t.entries.items)) all
  pub lesser : All (λ (t : Transcript). t.pid < pid → HasLines script world.events t) all
  pub rounds : 0 < pid → rounds_in moments ≡ rounds_of script.lines

-- why a run over this world has no outcome: want of memory or of a thread, or its gate ended one
abbrev pub CanEnd : (ℕ → ℕ → Bool → Bool) → ScriptView → WorldState → RunError → Type 0
CanEnd answers script passed HostMemory = Unit {0}
CanEnd answers script passed ThreadRefused = Unit {0}
CanEnd answers script passed (GateExpired pid) = IsExpired answers script passed pid
CanEnd answers script passed (HistoryMismatch pid) = ⊥

-- the same of a run that has the memory it needs, and starts its threads
abbrev pub CanStop : (ℕ → ℕ → Bool → Bool) → ScriptView → WorldState → RunError → Type 0
CanStop answers script passed HostMemory = ⊥
CanStop answers script passed error = CanEnd answers script passed error

-- how a run ended, once its threads are joined: a refused thread comes before the least pid of a thread that the gate ended
abbrev pub ended_by : Bool → Option ℕ → Result (Unit {0}) RunError
ended_by true expired = Err ThreadRefused
ended_by false (Some pid) = Err (GateExpired pid)
ended_by false None = Ok tt

-- the lesser of two pids, if there are two
abbrev pub least : ℕ → Option ℕ → ℕ
least pid None = pid
least pid (Some other) = min pid other

-- a thread with this pid comes before the one that the gate ended, if it ended one
abbrev pub comes_before : ℕ → Option ℕ → Bool
comes_before pid None = true
comes_before pid (Some ended) = nat_lt pid ended
