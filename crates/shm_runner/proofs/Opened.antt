-- A world that a script opened, before its first event, and after a run with threads.
use Rattle.shm_runner.proofs.Names.{◌≡◌, [], ℕ, List, ap, arith, refl, subst, sym, IsHistory, Opening, Event, AreCounted, WorldState, IsLawful, IsExactly, IsWorldSound, AreCountsOf, ScriptView, IsStart, IsFresh, IsOpening, IsOpened, IsOutcome, Transcript}
use Rattle.shm_runner.proofs.Started.{starts-anew}
use Rattle.shm_runner.proofs.Texts.{Known}

pub opens : (script : ScriptView) (w : WorldState) → IsOpening script w.opening → w.events ≡ [] → IsOpened script w
opens script w is none = record { events = none; processes = ap (λ (o : Opening). o.processes) is.is; pids = grind (arith, is.started) }

-- what a call of `lawful` says of a world
pub sound-world : (w : WorldState) (told : List Event) → told ≡ w.events → IsHistory w.opening w.events w.machine → AreCounted w.events w.memory.swap → IsExactly w.machine w.memory → IsLawful w.opening told w.machine → IsWorldSound w
sound-world w told same legal counted exact laws =
    record { legal = legal; counted = counted; exact = exact; laws = subst (λ (es : List Event). IsLawful w.opening es w.machine) same laws }

pub starts : (script : ScriptView) (w : WorldState) → IsOpening script w.opening → w.events ≡ [] → IsFresh w.memory.swap w.memory → IsWorldSound w → IsStart IsWorldSound w.memory.swap script w.opening.areas w
starts script w opened events memory sound = record { is_world = record { opened = opened; over = refl; sound = sound }; events = events; memory = memory }

-- what is known of the world at the end of a run
pub known-run : {P : Type 0} (failed : P → ℕ) (script : ScriptView) (passed w : WorldState) (transcripts : List Transcript)
    → IsStart IsWorldSound passed.memory.swap script passed.opening.areas passed → IsOutcome script passed w transcripts → IsWorldSound w → AreCountsOf failed w.memory.swap
    → Known failed passed.memory.swap script passed.opening.areas w transcripts
known-run failed script passed w transcripts start o sound counted =
    record {
      is_world = record { opened = subst (IsOpening script) (sym o.started.opening) start.is_world.opened; over = ap (λ (opening : Opening). opening.areas) o.started.opening; sound = sound };
      counted = counted;
      began = o.started.began;
      run = o.transcripts;
      start = record passed { room = o.room };
      begins = starts-anew passed.memory.swap script passed.opening.areas passed o.room start;
      moments = o.moments;
      moves = o.moves;
    }
