-- What holds of a run whenever its lock is free.
use Rattle.std.specs.Prelude.{◌≡◌, ◌<◌, ◌≤◌, ◌+◌, ◌==◌, ◌&&◌, ℕ, Bool, true, false, List, [], length, map, slice_get, slice_index_or, slice_set, All, Option, Some}
use Rattle.shm_base.specs.Bounds.{largest}
use Rattle.shm_base.specs.State.{Machine, Opening, start_of}
use Rattle.shm_base.specs.declared.call.Process.{Process}
use Rattle.shm_base.specs.declared.paging.FlushReport.{FlushReport}
use Rattle.shm_history.specs.Gauges.{Seat}
use Rattle.shm_history.specs.WorldState.{WorldState, IsRound}
use Rattle.shm_life.specs.Start.{are_pids}
use Rattle.shm_slots.specs.View.{new_swap}
use Rattle.shm_text.specs.Form.{CommandView}
use Rattle.shm_text.specs.Script.{ScriptView}
use Rattle.shm_threads.specs.Outcomes.{StartedFrom}
use Rattle.shm_threads.specs.Asked.{rounds_of}
use Rattle.shm_threads.specs.Births.{births_after, is_birth}
use Rattle.shm_threads.specs.Ends.{comes_before}
use Rattle.shm_threads.specs.Keepers.{HasPublished}
use Rattle.shm_threads.specs.Moves.{AreMoves, Moment}
use Rattle.shm_threads.specs.Strands.{IsMade, IsStrand, can_go, left_in, pid_of_strand}
use Rattle.shm_threads.specs.Transcripts.{IsAdmitted, pid_in}
use Rattle.shm_threads.specs.declared.births.ProcessState.{ProcessState}
use Rattle.shm_threads.specs.declared.strand.Made.{Made}
use Rattle.shm_threads.specs.declared.strand.Made.TheVariants.{End}
use Rattle.shm_threads.specs.declared.strand.Strand.{Strand}

-- THE INVARIANT of the lock: the moves so far lead from the world at the start to this one, with this many rounds; each process
-- of the script has its strand; the history has only events of declared processes that were live; and there is room for an
-- event of each line that is left
pub record IsRunning (script : ScriptView) (start world : WorldState) (strands : List Strand) (made : ℕ) : Type 0 where
  pub moments : List Moment
  pub moves : AreMoves script.lines start world strands made moments
  pub started : StartedFrom start.opening start.memory.swap world
  pub pids : are_pids script.processes ≡ true
  pub listed : map pid_of_strand strands ≡ map pid_in script.processes
  pub each : All (IsStrand script world.machine world.events) strands
  pub events : All (IsAdmitted script.processes) world.events
  pub room : left_in strands ≤ world.room

-- the process can continue, and comes before the thread that the gate ended, if it ended one
abbrev pub can_come : Option ℕ → Machine → Strand → Bool
can_come expired machine s = comes_before s.pid expired && can_go machine s

-- the same, and no thread can continue that comes before the one that the gate ended, if it ended one: no process, and no round is
-- left to the flusher
pub record IsOver (script : ScriptView) (start world : WorldState) (strands : List Strand) (made : ℕ) (expired : Option ℕ) : Type 0 where
  pub running : IsRunning script start world strands made
  pub none : All (λ (s : Strand). can_come expired world.machine s ≡ false) strands
  pub flushed : comes_before 0 expired ≡ true → length (rounds_of script.lines) ≤ made

-- the process at an index has this pid
abbrev pub IsProcessAt : List Process → ℕ → ℕ → Type 0
IsProcessAt processes index pid = (index < length processes) × ((d : Process) → (slice_index_or processes index d).pid ≡ pid)

-- what contracts see of what the threads share
pub record RunView : Type 0 where
  pub world : WorldState
  pub strands : List Strand
  -- the pages of the script's rounds, and how many of them were made
  pub rounds : List ℕ
  pub made : ℕ
  pub processes : List ProcessState
  pub keeper : Option Seat
  -- the least pid of a thread that the gate ended
  pub expired : Option ℕ

-- the process has not ended by this call
abbrev pub goes_on_by : Made → Bool
goes_on_by End = false
goes_on_by _ = true

-- A strand that can continue made the call of this command, its next line: its entry, a birth if there was one, and whether it may have more
pub record IsTurn (before : RunView) (index : ℕ) (command : CommandView) (goes_on news : Bool) (after : RunView) : Type 0 where
  pub strand : Strand
  pub next : Strand
  pub effect : Made
  pub at : (d : Strand) → slice_index_or before.strands index d ≡ strand
  pub step : IsMade before.world strand command effect after.world next
  pub rest : after ≡ record before { world = after.world; strands = slice_set before.strands index next; processes = births_after effect before.processes }
  pub noted : news ≡ is_birth effect
  pub more : goes_on ≡ goes_on_by effect

-- the next call of a strand is its n-th
abbrev pub is_next : Strand → ℕ → Bool
is_next s n = (length s.entries.items + 1) == n

-- no strand is at the index, or it can't continue, or its next call is not the n-th; then nothing happens
pub record IsIdle (before : RunView) (index n : ℕ) (goes_on news : Bool) (after : RunView) : Type 0 where
  pub stays : (d : Strand) → index < length before.strands → is_next (slice_index_or before.strands index d) n ≡ true → can_go before.world.machine (slice_index_or before.strands index d) ≡ false
  pub same : after ≡ before
  pub noted : news ≡ false
  pub more : goes_on ≡ false

-- the next round was made, and the keeper, if there is one, published the counts after it
pub record IsFlush (before after : RunView) : Type 0 where
  pub pages : ℕ
  pub report : FlushReport
  pub next : slice_get before.rounds before.made ≡ Some pages
  pub round : IsRound before.world pages report after.world
  pub published : HasPublished after.world after.keeper
  pub rest : after ≡ record before { world = after.world; made = before.made + 1; keeper = after.keeper }

-- no round is left, or the next one is not the n-th; then nothing happens
pub record IsFlushed (before : RunView) (n : ℕ) (after : RunView) : Type 0 where
  pub none : n ≡ before.made + 1 → length before.rounds ≤ before.made
  pub same : after ≡ before

abbrev pub no_script : ScriptView
no_script = record { limits = largest; processes = []; lines = [] }

abbrev pub no_opening : Opening
no_opening = record { limits = largest; areas = []; processes = [] }

abbrev pub no_world : WorldState
no_world =
    record {
      opening = no_opening;
      events = [];
      machine = start_of no_opening;
      memory = record { segs = []; frames = []; hand = 0; swap = new_swap []; ins = 0; outs = 0 };
      room = 0;
    }
