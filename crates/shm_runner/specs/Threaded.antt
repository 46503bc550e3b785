-- The output of a run with threads, and what its faults say about its input.
use Rattle.std.specs.Prelude.{◌≡◌, ◌≤◌, ◌⊎◌, ℕ, Bool, true, false, List, Option, Result, OnOk, IfErr}
use Rattle.std.specs.Io.KnownBytes.{IsAtEnd}
use Rattle.shm_slots.specs.View.{SwapView, are_finite}
use Rattle.shm_slots.specs.Cause.{most_total}
use Rattle.shm_history.specs.WorldState.{WorldState, failures_in}
use Rattle.shm_text.specs.Script.{ScriptView}
use Rattle.shm_threads.specs.Moves.{Moment}
use Rattle.shm_threads.specs.Outcomes.{AreAllMoves}
use Rattle.shm_threads.specs.Transcripts.{AreTranscripts}
use Rattle.shm_threads.specs.declared.transcript.Transcript.{Transcript}
use Rattle.shm_program.specs.Running.{IsStart}
use Rattle.shm_program.specs.Runs.{IsWorldOf, IsSilent, IsTextFor, IsCause, Prints}
use Rattle.shm_laws.specs.Worlds.{IsWorldSound}
use Rattle.shm_runner.specs.Faults.{CanFail}
use Rattle.shm_runner.specs.Marks.{have_mark}
use Rattle.shm_runner.specs.Output.{NeverFails, world_text}
use Rattle.shm_program.specs.declared.fault.RunFault.{RunFault}
use Rattle.shm_program.specs.declared.fault.RunFault.TheVariants.{HostMemory}

-- The text of the world to which the moves of a run led, from the world that the script opened over the swap areas as they were
-- passed in: the calls of its processes, each in its own order, and its flush rounds in theirs; and whether one of its calls is
-- marked as out of memory. No more replies name a failure than the pagers may still count, and none does with pagers that never
-- fail
pub record IsThreadedOutput {P : Type 0} (failed : P → ℕ) (swap : SwapView) (marked : Bool) (script : ScriptView) (areas : List ℕ) (text : List ℕ) : Type 0 where
  pub start : WorldState
  pub begins : IsStart IsWorldSound swap script areas start
  pub moments : List Moment
  pub world : WorldState
  pub transcripts : List Transcript
  pub moves : AreAllMoves script start world transcripts moments
  pub is_world : IsWorldOf IsWorldSound script areas world
  pub unfailing : NeverFails failed → failures_in world.events ≡ 0
  pub bounded : are_finite swap ≡ true → failures_in world.events ≤ most_total swap
  pub is_run : AreTranscripts script world transcripts
  pub marks : have_mark transcripts ≡ marked
  pub printed : text ≡ world_text world

-- the same, whether or not a call is marked
abbrev pub IsAnyOutput : {P : Type 0} → (P → ℕ) → SwapView → ScriptView → List ℕ → List ℕ → Type 0
IsAnyOutput failed swap script areas text = (marked : Bool) × IsThreadedOutput failed swap marked script areas text

-- nothing is written, or a beginning of a text with this property if the writer failed; or everything is, if a call of the run was
-- out of memory
abbrev pub IsAllOrNothing : (List ℕ → Type 0) → RunFault → Option (List ℕ) → Option (List ℕ) → Type 0 → Type 0
IsAllOrNothing IsText fault old new Marked = IsSilent IsText fault old new ⊎ ((fault ≡ HostMemory) × Marked)

-- the input was read to its end, and exactly the text of its run was written, one of whose calls is marked as out of memory
pub record IsMarkedOutput {P : Type 0} (failed : P → ℕ) (swap : SwapView) (areas : List ℕ) (input rest old new : Option (List ℕ)) : Type 0 where
  pub whole : IsAtEnd rest
  pub printed : Prints (IsThreadedOutput failed swap true) old new areas input

-- what an error leaves written
abbrev pub IsWrittenAt : {P : Type 0} → (P → ℕ) → SwapView → List ℕ → Option (List ℕ) → Option (List ℕ) → Option (List ℕ) → Option (List ℕ) → RunFault → Type 0
IsWrittenAt failed swap areas input rest old new fault =
    let IsText = IsTextFor (IsAnyOutput failed swap) areas input in
    IsAllOrNothing IsText fault old new (IsMarkedOutput failed swap areas input rest old new)

-- a run with threads: the input before it and the rest after it, and the output
pub record IsThreadedRun {P : Type 0} (failed : P → ℕ) (swap : SwapView) (result : Result (Unit {0}) RunFault) (input rest old new : Option (List ℕ)) (areas : List ℕ) : Type 0 where
  pub ok : OnOk result (Prints (IsThreadedOutput failed swap false) old new areas input)
  pub whole : OnOk result (IsAtEnd rest)
  pub cause : IfErr result (λ f. IsCause f areas input)
  pub ended : IfErr result CanFail
  pub written : IfErr result (IsWrittenAt failed swap areas input rest old new)
