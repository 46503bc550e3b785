-- The names that the proofs use: those of the crates below, and of the specs of this crate.
pub use Rattle.std.proofs.Common.{Bool, List, Ok, Option, Some, [], ap, append-nil, append_assoc, arith, drop, false, get_or, inl, inr, length, map, refl, rules, string_bytes, subst, sym, true, ℕ, ◌++◌, ◌+◌, ◌∙◌, ◌∷◌, ◌≡◌, ◌≤◌}
pub use Rattle.std.proofs.KnownBytes.{Keeps-refl}
pub use Rattle.std.proofs.lemmas.Bool.{false≢true}
pub use Rattle.std.proofs.lemmas.Grind.{common_steps}
pub use Rattle.std.proofs.lemmas.List.{drop_more, length_push}
pub use Rattle.std.proofs.lemmas.Result.{on_ok_weaker}
pub use Rattle.std.specs.Io.KnownBytes.{Appends, IsAtEnd}
pub use Rattle.std.specs.Prelude.{Err, IfErr, OnOk, Result}
pub use Rattle.shm_base.specs.Callers.{Outcome}
pub use Rattle.shm_base.specs.History.{IsHistory, LeadsFrom, is_failure}
pub use Rattle.shm_base.specs.State.{Machine, Opening, start_of}
pub use Rattle.shm_base.specs.Step.{step}
pub use Rattle.shm_base.specs.declared.call.Event.{Event}
pub use Rattle.shm_fault.specs.Store.{StoreView}
pub use Rattle.shm_history.proofs.Clear.{clear_step, first_clear, rest_clear}
pub use Rattle.shm_history.specs.WorldState.{AreCounted, WorldState, event, failures_in, tally_of}
pub use Rattle.shm_laws.specs.Lawful.{IsLawful}
pub use Rattle.shm_laws.specs.Worlds.{IsWorldSound}
pub use Rattle.shm_life.specs.MachineView.{IsExactly}
pub use Rattle.shm_print.specs.Text.{events_text}
pub use Rattle.shm_print.specs.Usage.{usage_text}
pub use Rattle.shm_program.proofs.Causes.{anyway, causes, read_silent, silent_as, silent_for, silents_as, stop_cause, stop_serial, stop_silent, text_for, world_causes, world_serials}
pub use Rattle.shm_program.proofs.Chains.{run-kept}
pub use Rattle.shm_program.proofs.Texts.{shown, shows, written_as}
pub use Rattle.shm_program.specs.Listing.{listing_of}
pub use Rattle.shm_program.specs.Running.{HaveRun, IsRunOf, IsStart, RunStep, call_made}
pub use Rattle.shm_program.specs.Runs.{IsCauseIn, IsFresh, IsOpening, IsReadAs, IsSilent, IsTextFor, IsWorldOf, IsWritten, handed_in, is_serial, opening_of}
pub use Rattle.shm_program.specs.Values.{HolderView, fresh_holder, with_answer}
pub use Rattle.shm_program.specs.declared.fault.RunFault.{RunFault}
pub use Rattle.shm_program.specs.declared.fault.RunFault.TheVariants.{Gate, Mismatch}
pub use Rattle.shm_runner.specs.Faults.{CanFail, IsUngated, ended_as}
pub use Rattle.shm_runner.specs.Flat.{flat_end, flat_events, flat_text}
pub use Rattle.shm_runner.specs.Marks.{have_mark}
pub use Rattle.shm_runner.specs.Output.{IsOutput, NeverFails, world_text}
pub use Rattle.shm_runner.specs.Threaded.{IsAllOrNothing, IsAnyOutput, IsThreadedOutput, IsWrittenAt}
pub use Rattle.shm_slots.proofs.Causes.{never_spent-most, total-most, unfailing}
pub use Rattle.shm_slots.specs.Cause.{GoesOn, most_total, total}
pub use Rattle.shm_slots.specs.View.{AreCountsOf, SwapView, are_finite}
pub use Rattle.shm_text.specs.Script.{ScriptView}
pub use Rattle.shm_text.specs.declared.script.Line.{Line}
pub use Rattle.shm_text.specs.declared.script.Line.TheVariants.{Command, Flush}
pub use Rattle.shm_threads.specs.Ends.{CanEnd}
pub use Rattle.shm_threads.specs.Moves.{Moment}
pub use Rattle.shm_threads.specs.Outcomes.{AreAllMoves, IsOpened, IsOutcome}
pub use Rattle.shm_threads.specs.Transcripts.{AreTranscripts}
pub use Rattle.shm_threads.specs.declared.outcome.RunError.{RunError}
pub use Rattle.shm_threads.specs.declared.transcript.Transcript.{Transcript}
