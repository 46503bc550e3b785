-- The moves of a run in the order in which its threads had the lock: calls of its processes, and flush rounds.
use Rattle.std.specs.Prelude.{◌≡◌, ◌==◌, ℕ, List, [], ◌∷◌, take, if◌then◌else◌, All}
use Rattle.shm_base.specs.declared.paging.FlushReport.{FlushReport}
use Rattle.shm_history.specs.WorldState.{WorldState, IsRound}
use Rattle.shm_text.specs.declared.script.Line.{Line}
use Rattle.shm_threads.specs.Asked.{rounds_of}
use Rattle.shm_threads.specs.Strands.{IsAnswered}
use Rattle.shm_threads.specs.declared.strand.Strand.{Strand}
use Rattle.shm_threads.specs.declared.transcript.Entry.{Entry}

-- a call of a process with its answer, or a flush round of at most this many pages
pub data Move : Type 0 where
  Called : (pid : ℕ) → (entry : Entry) → Move
  Flushed : (pages : ℕ) → Move

-- a move, and the world after it
pub record Moment : Type 0 where
  pub move : Move
  pub world : WorldState

-- a call is recorded with its reply, or the host refused memory for it; a round changes only the memory
abbrev pub Makes : WorldState → Move → WorldState → Type 0
Makes before (Called pid entry) after = IsAnswered before pid entry.call entry.answer after
Makes before (Flushed pages) after = (report : FlushReport) × IsRound before pages report after

-- the moves lead from one world to the other
abbrev pub Leads : WorldState → List Moment → WorldState → Type 0
Leads before [] after = after ≡ before
Leads before (m ∷ ms) after = Makes before m.move m.world × Leads m.world ms after

-- the calls of a process, with their replies
abbrev pub entries_by : ℕ → Move → List Entry → List Entry
entries_by pid (Called by entry) rest = if by == pid then entry ∷ rest else rest
entries_by pid (Flushed pages) rest = rest

abbrev pub entries_in : ℕ → List Moment → List Entry
entries_in pid [] = []
entries_in pid (m ∷ ms) = entries_by pid m.move (entries_in pid ms)

-- the pages of the rounds
abbrev pub rounds_by : Move → List ℕ → List ℕ
rounds_by (Called by entry) rest = rest
rounds_by (Flushed pages) rest = pages ∷ rest

abbrev pub rounds_in : List Moment → List ℕ
rounds_in [] = []
rounds_in (m ∷ ms) = rounds_by m.move (rounds_in ms)

-- The moves of a run so far: they lead from the world at its start to this one; each strand has the calls of its process; and
-- this many of the script's rounds were made, in their order
pub record AreMoves (lines : List Line) (start world : WorldState) (strands : List Strand) (made : ℕ) (moments : List Moment) : Type 0 where
  pub leads : Leads start moments world
  pub entries : All (λ (s : Strand). s.entries.items ≡ entries_in s.pid moments) strands
  pub rounds : rounds_in moments ≡ take made (rounds_of lines)
