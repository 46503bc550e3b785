-- Whole runs as runs of schedules: the words that `shm_schedules` and `shm_outcomes` have for what a script can do.
use Rattle.std.specs.Prelude.{◌≡◌, ◌++◌, ℕ, false, List, All, Contains}
use Rattle.shm_base.specs.State.{Machine}
use Rattle.shm_base.specs.declared.call.Event.{Event}
use Rattle.shm_history.specs.WorldState.{WorldState, failures_in}
use Rattle.shm_text.specs.Script.{ScriptView}
use Rattle.shm_threads.specs.Transcripts.{AreTranscripts}
use Rattle.shm_threads.specs.declared.transcript.Transcript.{Transcript}
use Rattle.shm_program.specs.Runs.{IsOpening}
use Rattle.shm_outcomes.specs.Masking.{AreMaskedOutcomes, hidden_outcome}
use Rattle.shm_schedules.specs.Outcomes.{outcome_of}
use Rattle.shm_schedules.specs.Schedules.{Run, IsSchedule, start, schedule_of}
use Rattle.shm_outcomes.specs.Search.{AreOutcomes, outcomes_in}
use Rattle.shm_schedules.specs.Finding.{Finding}
use Rattle.shm_print.specs.Text.{events_text}
use Rattle.shm_program.specs.Listing.{listing_of}
use Rattle.shm_runner.specs.Flat.{flat_text}
use Rattle.shm_runner.specs.Marks.{have_mark}
use Rattle.shm_scheduled.specs.Ordered.{AreOrdered, in_order, ordered, serial_events}

-- the calls with their replies, and the machine that they led to
abbrev pub run_of : List Event → Machine → Run
run_of events machine = record { machine = machine; events = events }

-- the script with its lines in the order of the events has the same calls and replies in file order
pub record IsSerial (script : ScriptView) (areas : List ℕ) (events : List Event) : Type 0 where
  pub lines : AreOrdered (schedule_of events) script.lines (in_order (schedule_of events) script.lines)
  pub replies : serial_events (ordered (schedule_of events) script) areas ≡ events

-- The history is that of a schedule of the script, over swap areas of these sizes, and ends when no process can continue. So each
-- list of all outcomes has its outcome, and a serial run of the lines in that order makes the same history and prints the same
-- event lines and the same listing
pub record IsScheduled (script : ScriptView) (areas : List ℕ) (events : List Event) (machine : Machine) : Type 0 where
  pub schedule : IsSchedule script (start script areas) (schedule_of events) (run_of events machine)
  pub listed : (found : List Finding) → AreOutcomes script (start script areas) found → Contains (outcomes_in found) (outcome_of script events)
  pub masked : (found : List Finding) → AreMaskedOutcomes script (start script areas) found → Contains (outcomes_in found) (hidden_outcome (outcome_of script events))
  pub serial : IsSerial script areas events
  pub printed : flat_text (ordered (schedule_of events) script) areas ≡ events_text 1 events ++ listing_of machine

-- a run of the script in which the host refused no memory, and no reply names a pager's failure
pub record IsClear (script : ScriptView) (world : WorldState) (transcripts : List Transcript) : Type 0 where
  pub opened : IsOpening script world.opening
  pub run : AreTranscripts script world transcripts
  pub unmarked : have_mark transcripts ≡ false
  pub unfailing : failures_in world.events ≡ 0

-- a serial run of the script's lines in the order of each finding's schedule has the finding's calls and replies
abbrev pub AreSerial : ScriptView → List ℕ → List Finding → Type 0
AreSerial script areas found = All (λ (f : Finding). IsSerial script areas f.events) found
