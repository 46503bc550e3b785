-- Single schedules: the numbers of a generator decide which of the processes that can continue makes its next call.
use Rattle.std.specs.Prelude.{◌≡◌, ◌<◌, ℕ, zero, suc, List, [], ◌∷◌, ◌++◌, codes, flat_map, length, slice_index_or, Option, Some, None}
use Rattle.std.specs.Fmt.{decimal}
use Rattle.rand.specs.Uniform.{usize_single}
use Rattle.rand_core.specs.Stream.{Stream}
use Rattle.shm_base.specs.Calls.{ProcessCall}
use Rattle.shm_base.specs.declared.call.Event.{Event}
use Rattle.shm_base.specs.declared.call.Process.{Process}
use Rattle.shm_print.specs.Text.{events_text}
use Rattle.shm_text.specs.Script.{ScriptView}
use Rattle.shm_schedules.specs.Schedules.{Run, after, next, IsSchedule, schedule_of}
use Rattle.shm_judge.specs.declared.sampling.Turn.{Turn}

abbrev pub one_turn : ℕ → Option ProcessCall → List Turn
one_turn pid None = []
one_turn pid (Some call) = record { pid = pid; call = call } ∷ []

-- those of these processes that can continue, each with its next call
abbrev pub turns_of : ScriptView → Run → List Process → List Turn
turns_of script run processes = flat_map (λ (p : Process). one_turn p.pid (next script run p.pid)) processes

-- the processes that can continue, in the script's order
abbrev pub turns : ScriptView → Run → List Turn
turns script run = turns_of script run script.processes

-- a number below a count, each with the same probability, and the generator's later numbers
abbrev pub below : ℕ → Stream → ℕ × Stream
below count stream = usize_single 0 count stream

-- the element at the index that the generator gives
pub record IsDrawn (all : List Turn) (stream : Stream) (turn : Turn) (rest : Stream) : Type 0 where
  pub within : (below (length all) stream).0 < length all
  pub chosen : slice_index_or all (below (length all) stream).0 turn ≡ turn
  pub left : rest ≡ (below (length all) stream).1

-- a schedule leads from one run to another, and each of its processes is drawn among those that can continue
abbrev pub LeadsDrawn : ScriptView → List ℕ → Run → Run → Stream → Stream → Type 0
LeadsDrawn script [] old new stream rest = (old ≡ new) × (stream ≡ rest)
LeadsDrawn script (pid ∷ schedule) old new stream rest =
    (turn : Turn) × (mid : Stream) × IsDrawn (turns script old) stream turn mid × (turn.pid ≡ pid) × LeadsDrawn script schedule (after old pid turn.call) new mid rest

-- the calls and replies of a drawn schedule, and the generator's later numbers
pub record IsSample (script : ScriptView) (first : Run) (stream : Stream) (events : List Event) (rest : Stream) : Type 0 where
  pub end : Run
  pub schedule : IsSchedule script first (schedule_of events) end
  pub is : end.events ≡ events
  pub drawn : LeadsDrawn script (schedule_of events) first end stream rest

-- a run: its number, and its calls in order, with their places and times
abbrev pub run_text : ℕ → List Event → List ℕ
run_text n events = codes "run " ++ (decimal n ++ (codes "\n" ++ events_text 1 events))

-- one such run, with this number, is appended to a text
pub record IsPutSample (script : ScriptView) (first : Run) (number : ℕ) (stream rest : Stream) (old new : List ℕ) : Type 0 where
  pub events : List Event
  pub sample : IsSample script first stream events rest
  pub text : new ≡ old ++ run_text number events

-- the text of this many runs, each drawn by the numbers that follow those of the run before it
abbrev pub AreSamples : ScriptView → Run → ℕ → Stream → Stream → List ℕ → Type 0
AreSamples script first zero stream rest text = (text ≡ []) × (stream ≡ rest)
AreSamples script first (suc n) stream rest text =
    (mid : Stream) × (before : List ℕ) × AreSamples script first n stream mid before × IsPutSample script first (suc n) mid rest before text
