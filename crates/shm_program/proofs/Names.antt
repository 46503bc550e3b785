-- The names that the proofs use: those of the crates below, and of the specs of this crate.
pub use Rattle.std.proofs.Common.{List, None, Ok, Option, Some, [], add-one, ap, append-nil, append_assoc, arith, drop, get_or, inl, inr, length, length-append, map, option_map, refl, replicate, rules, set, string_bytes, subst, suc, sym, take, true, zero, ℕ, ◌++◌, ◌+◌, ◌-◌, ◌<◌, ◌∙◌, ◌∷◌, ◌≡◌, ◌≤◌, ◌⊎◌}
pub use Rattle.std.proofs.KnownBytes.{Appends-kept, Appends-trans, Consumes-nil, Keeps-refl}
pub use Rattle.std.proofs.Math.Seq.{drop-cons, take-append_seam, take-length, take-suc}
pub use Rattle.std.proofs.lemmas.Bool.Decides.{nat_tests}
pub use Rattle.std.proofs.lemmas.Grind.{common_steps}
pub use Rattle.std.proofs.lemmas.List.{drop-set, length-replicate, take-append-drop, take-set, take_all}
pub use Rattle.std.specs.Io.KnownBytes.{Appends, Consumes, IsAtEnd}
pub use Rattle.std.specs.List.{AllZip}
pub use Rattle.std.specs.Prelude.{Err, IfErr, OnOk, Result, slice_get}
pub use Rattle.shm_areas.specs.Arranged.{bare_all}
pub use Rattle.shm_base.specs.State.{Entry, Machine}
pub use Rattle.shm_base.specs.Stored.{padded}
pub use Rattle.shm_base.specs.declared.paging.PageRef.{PageRef}
pub use Rattle.shm_history.specs.WorldState.{WorldState}
pub use Rattle.shm_life.specs.Listed.{listed_entry, segment_at}
pub use Rattle.shm_life.specs.Start.{start_error}
pub use Rattle.shm_life.specs.declared.start.StartError.{StartError}
pub use Rattle.shm_pager.proofs.Made.{made-seen}
pub use Rattle.shm_pager.specs.Areas.{area_pages, calls_in, failed_in, most_in}
pub use Rattle.shm_pager_core.specs.Pages.{SideCalls, pager_seen}
pub use Rattle.shm_pager.specs.declared.area.AreaPager.{AreaPager}
pub use Rattle.shm_program.specs.Areas.{IsAreaOf, areas_named, blank_of, calls_of, kind_of, no_calls, size_of}
pub use Rattle.shm_program.specs.Ends.{is_reading}
pub use Rattle.shm_program.specs.Faults.{refused_as}
pub use Rattle.shm_program.specs.Listing.{line_shown, lines_from, listing_of}
pub use Rattle.shm_program.specs.Options.{each_swap}
pub use Rattle.shm_program.specs.Record.{area_text, frame_line, numbered, pieces_text, processes_text, slot_line}
pub use Rattle.shm_program.specs.Running.{HasRun, HaveRun, RunStep}
pub use Rattle.shm_program.specs.Runs.{IsCause, IsCauseIn, IsPart, IsReadAs, IsSilent, IsStop, IsTextFor, IsWritten, MayBe, Prints, handed_in, is_serial}
pub use Rattle.shm_program.specs.Values.{HolderView, fresh_holder, values_of, with_values}
pub use Rattle.shm_program.specs.declared.fault.RunFault.{RunFault}
pub use Rattle.shm_program.specs.declared.fault.RunFault.TheVariants.{HostMemory, StartRefused, WriteFailed}
pub use Rattle.shm_program.specs.declared.options.SwapWord.{SwapWord}
pub use Rattle.shm_slots.proofs.Causes.{GoesOn-refl, GoesOn-trans}
pub use Rattle.shm_slots.specs.Cause.{GoesOn}
pub use Rattle.shm_slots.specs.View.{AreaView, SwapView, area_at, fresh, new_swap}
pub use Rattle.shm_text.proofs.ItemSteps.{same_fault, short_script}
pub use Rattle.shm_text.specs.Reading.{IsFaultOf, script_of}
pub use Rattle.shm_text.specs.Script.{ScriptView}
pub use Rattle.shm_text.specs.Variables.{values_after}
pub use Rattle.shm_text.specs.declared.fault.ReadRefused.{ReadRefused}
pub use Rattle.shm_text.specs.declared.script.Line.{Line}
pub use Rattle.shm_text.specs.declared.script.Line.TheVariants.{Command, Flush}
