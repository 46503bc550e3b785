-- The text of a world, as that of a script's run.
use Rattle.shm_runner.proofs.Names.{◌≡◌, refl, sym, subst, inl, inr, ℕ, Bool, true, false, List, Option, Ok, OnOk, IfErr, Result, Err, Appends, IsAtEnd, SwapView, AreCountsOf, GoesOn, WorldState, ScriptView, Transcript, IsRunOf, IsStart, RunStep, IsReadAs, IsWorldOf, IsTextFor, IsWritten, IsWorldSound, IsOutput, world_text, silent_as, text_for, shown, Moment, AreAllMoves, AreTranscripts, have_mark, IsAnyOutput, IsThreadedOutput, IsAllOrNothing, IsWrittenAt, RunFault}
use Rattle.shm_runner.proofs.Flatness.{began, flat_printed, flat_unfailing, flat_bounded, few_failures, none_unfailing}

-- the text of the world to which a script's lines led
pub serial_text : {P : Type 0} (failed : P → ℕ) (swap : SwapView) (script : ScriptView) (areas : List ℕ) (start : WorldState) (steps : List RunStep) (w : WorldState)
    → IsRunOf IsWorldSound swap script areas start steps w → IsWorldSound w → AreCountsOf failed w.memory.swap → IsOutput failed swap script areas (world_text w)
serial_text failed swap script areas start steps w run sound counted =
    record {
      start = start;
      steps = steps;
      world = w;
      ran = run;
      sound = sound;
      printed = refl;
      invisible = flat_printed swap script areas start steps w run sound;
      unfailing = flat_unfailing swap script areas start steps w run sound failed counted;
      bounded = few_failures swap w sound (began swap script areas start steps w run sound);
      flat = flat_bounded swap script areas start steps w run sound;
    }

-- what is known of a run whose world is printed
pub record Known {P : Type 0} (failed : P → ℕ) (swap : SwapView) (script : ScriptView) (areas : List ℕ) (w : WorldState) (transcripts : List Transcript) : Type 0 where
  pub is_world : IsWorldOf IsWorldSound script areas w
  pub counted : AreCountsOf failed w.memory.swap
  pub began : GoesOn swap w.memory.swap
  pub run : AreTranscripts script w transcripts
  pub start : WorldState
  pub begins : IsStart IsWorldSound swap script areas start
  pub moments : List Moment
  pub moves : AreAllMoves script start w transcripts moments

module _ {P : Type 0} (failed : P → ℕ) (swap : SwapView) (script : ScriptView) (areas : List ℕ) where
  module _ (w : WorldState) (transcripts : List Transcript) (k : Known failed swap script areas w transcripts) where
    text_of : (marked : Bool) → have_mark transcripts ≡ marked → IsThreadedOutput failed swap marked script areas (world_text w)
    text_of marked marks =
        record {
          start = k.start;
          begins = k.begins;
          moments = k.moments;
          world = w;
          transcripts = transcripts;
          moves = k.moves;
          is_world = k.is_world;
          unfailing = none_unfailing failed w k.is_world.sound k.counted;
          bounded = few_failures swap w k.is_world.sound k.began;
          is_run = k.run;
          marks = marks;
          printed = refl;
        }

    pub threaded_text : (result : Result (Unit {0}) RunFault) (old new : Option (List ℕ)) → OnOk result ((have_mark transcripts ≡ false) × Appends old new (world_text w))
        → OnOk result (IsWritten (IsThreadedOutput failed swap false script areas) old new)
    threaded_text (Ok done) old new (marks, written) = (world_text w, text_of false marks, written)
    threaded_text (Err fault) old new e = tt

    any_text : (text : List ℕ) → text ≡ world_text w → IsAnyOutput failed swap script areas text
    any_text text is = (have_mark transcripts, subst (IsThreadedOutput failed swap (have_mark transcripts) script areas) (sym is) (text_of (have_mark transcripts) refl))

    marked_by : (fault : RunFault) (old new : Option (List ℕ)) → IsAllOrNothing (λ text. text ≡ world_text w) fault old new ((have_mark transcripts ≡ true) × Appends old new (world_text w))
        → IsAllOrNothing (IsAnyOutput failed swap script areas) fault old new (IsWritten (IsThreadedOutput failed swap true script areas) old new)
    marked_by fault old new (inl silent) = inl (silent_as (λ text. text ≡ world_text w) (IsAnyOutput failed swap script areas) fault old new any_text silent)
    marked_by fault old new (inr (e, (marks, written))) = inr (e, (world_text w, text_of true marks, written))

    pub marked_text : (result : Result (Unit {0}) RunFault) (old new : Option (List ℕ)) → IfErr result (λ f. IsAllOrNothing (λ text. text ≡ world_text w) f old new ((have_mark transcripts ≡ true) × Appends old new (world_text w)))
        → IfErr result (λ f. IsAllOrNothing (IsAnyOutput failed swap script areas) f old new (IsWritten (IsThreadedOutput failed swap true script areas) old new))
    marked_text (Ok done) old new e = tt
    marked_text (Err fault) old new e = marked_by fault old new e

  marked_shown : (fault : RunFault) (input rest old new : Option (List ℕ)) → IsReadAs input (Ok script) → IsAtEnd rest → IsAllOrNothing (IsAnyOutput failed swap script areas) fault old new (IsWritten (IsThreadedOutput failed swap true script areas) old new)
      → IsWrittenAt failed swap areas input rest old new fault
  marked_shown fault input rest old new read end (inl silent) = inl (silent_as (IsAnyOutput failed swap script areas) (IsTextFor (IsAnyOutput failed swap) areas input) fault old new (text_for (IsAnyOutput failed swap) areas input script read) silent)
  marked_shown fault input rest old new read end (inr (e, written)) = inr (e, record { whole = end; printed = shown (IsThreadedOutput failed swap true) input old new areas script read written })

  pub marked_shows : (result : Result (Unit {0}) RunFault) (input rest old new : Option (List ℕ)) → IsReadAs input (Ok script) → IsAtEnd rest → IfErr result (λ f. IsAllOrNothing (IsAnyOutput failed swap script areas) f old new (IsWritten (IsThreadedOutput failed swap true script areas) old new))
      → IfErr result (IsWrittenAt failed swap areas input rest old new)
  marked_shows (Ok done) input rest old new read end e = tt
  marked_shows (Err fault) input rest old new read end e = marked_shown fault input rest old new read end e
