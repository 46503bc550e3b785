-- The calls of a run that its gate let its threads make.
use Rattle.std.specs.Prelude.{◌≡◌, ℕ, Bool, true, List, length, All}
use Rattle.shm_text.specs.Script.{ScriptView}
use Rattle.shm_threads.specs.Asked.{IsWithin, rounds_of}
use Rattle.shm_threads.specs.declared.strand.Strand.{Strand}
use Rattle.shm_threads.specs.declared.transcript.Transcript.{Transcript}

-- before each of a thread's first calls, of which there are this many, the gate may answer that the thread may make it
abbrev pub Passes : (ℕ → ℕ → Bool → Bool) → ℕ → ℕ → Type 0
Passes answers pid count = (n : ℕ) → IsWithin n count → answers pid n true ≡ true

-- the gate passed each call of the strands so far, and each round
pub record ArePassed (answers : ℕ → ℕ → Bool → Bool) (strands : List Strand) (made : ℕ) : Type 0 where
  pub calls : All (λ (s : Strand). Passes answers s.pid (length s.entries.items)) strands
  pub rounds : Passes answers 0 made

-- the gate passed each call of the transcripts, also those that are marked, and each round of the script
pub record AreAllPassed (answers : ℕ → ℕ → Bool → Bool) (script : ScriptView) (all : List Transcript) : Type 0 where
  pub calls : All (λ (t : Transcript). Passes answers t.pid (length t.entries.items)) all
  pub rounds : Passes answers 0 (length (rounds_of script.lines))
