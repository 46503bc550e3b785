-- What a run with threads asks for and promises.
use Rattle.std.specs.Prelude.{◌≡◌, ℕ, List, [], true, All}
use Rattle.shm_base.specs.History.{IsHistory}
use Rattle.shm_base.specs.State.{Opening}
use Rattle.shm_life.specs.Start.{are_pids}
use Rattle.shm_slots.specs.View.{SwapView}
use Rattle.shm_slots.specs.Cause.{GoesOn}
use Rattle.shm_history.specs.WorldState.{WorldState}
use Rattle.shm_text.specs.Script.{ScriptView}
use Rattle.shm_threads.specs.Asked.{rounds_of}
use Rattle.shm_threads.specs.Moves.{Leads, Moment, entries_in, rounds_in}
use Rattle.shm_threads.specs.Transcripts.{AreTranscripts}
use Rattle.shm_threads.specs.declared.transcript.Transcript.{Transcript}

-- the world as the script opens it: it has no event, and the script's processes, of which no two have the same pid
pub record IsOpened (script : ScriptView) (world : WorldState) : Type 0 where
  pub events : world.events ≡ []
  pub processes : world.opening.processes ≡ script.processes
  pub pids : are_pids script.processes ≡ true

-- the world started from this opening and these swap areas
pub record StartedFrom (opened : Opening) (swap : SwapView) (world : WorldState) : Type 0 where
  pub opening : world.opening ≡ opened
  pub began : GoesOn swap world.memory.swap

-- the moves of a whole run: they lead from the world at its start to the one at its end; each transcript has the calls of its
-- process; and all rounds of the script were made, in their order
pub record AreAllMoves (script : ScriptView) (start world : WorldState) (all : List Transcript) (moments : List Moment) : Type 0 where
  pub leads : Leads start moments world
  pub entries : All (λ (t : Transcript). t.entries.items ≡ entries_in t.pid moments) all
  pub rounds : rounds_in moments ≡ rounds_of script.lines

-- The outcome of a run in a world that was passed in, once room was reserved there: each of the run's moves led to the next, the
-- world started from what was passed in, the history is legal, and the transcripts are those of its processes
pub record IsOutcome (script : ScriptView) (passed world : WorldState) (all : List Transcript) : Type 0 where
  pub room : ℕ
  pub moments : List Moment
  pub moves : AreAllMoves script (record passed { room = room }) world all moments
  pub started : StartedFrom passed.opening passed.memory.swap world
  pub legal : IsHistory world.opening world.events world.machine
  pub transcripts : AreTranscripts script world all
