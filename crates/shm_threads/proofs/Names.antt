-- The names that the proofs use: those of the crates below, and of the specs of this crate.
pub use Rattle.std.proofs.Common.{All, Bool, IsFalse, IsTrue, List, MatchBool, None, Option, Some, [], ap, append-nil, append_assoc, arith, drop, eq-eqb, eqb-true, false, if◌then◌else◌, inl, inr, is_some, length, map, ne_eqb, position, refl, rules, slice_set, subst, sym, take, true, true≢false, vec_capacity, vec_len, ℕ, ◌++◌, ◌+◌, ◌-◌, ◌<◌, ◌==◌, ◌↔◌, ◌∙◌, ◌∷◌, ◌≡◌, ◌≢◌, ◌≤◌, ◌⊎◌}
pub use Rattle.std.proofs.Crossing.{crosses}
pub use Rattle.std.proofs.Math.ListN.{get_or, set}
pub use Rattle.std.proofs.lemmas.Bool.{and_cases, and_from, and_parts, cases_Bool, cases_eq, cases_lt, false≢true, lt-ltb, ltb-false, ltb-true, or_from, or_left, or_parts, or_right}
pub use Rattle.std.proofs.lemmas.Bool.Decides.{nat_tests}
pub use Rattle.std.proofs.lemmas.Grind.{common_steps}
pub use Rattle.std.proofs.lemmas.List.{drop_all, drop_more, get_or-map, get_or-set_other, get_or-set_same, get_or_at, get_or_read, length-map, length-set, length_push, map-set, set-get_or, take_all, take_more}
pub use Rattle.std.proofs.lemmas.List.Elements.{All-head, All-map, All-nil, All-push, All-tail, filter-append}
pub use Rattle.std.proofs.lemmas.List.Quantifiers.{position-Some}
pub use Rattle.std.proofs.lemmas.List.Sums.{fails_before_first}
pub use Rattle.std.proofs.lemmas.Option.{get_or_from_slice_get, none-some, same_Some, slice_get_read, slice_get_within}
pub use Rattle.std.proofs.lemmas.Result.{IfErr-weaker, IfOk-weaker, err_from_is_err_and}
pub use Rattle.std.specs.Borrow.{Bor}
pub use Rattle.std.specs.List.{list_any, position_or_len}
pub use Rattle.std.specs.Option.{ok_or, option_copied}
pub use Rattle.std.specs.Prelude.{Err, IfErr, IfOk, IfSome, Ok, OnOk, Result, filter, min, nat_le, nat_lt, not, slice_get, ℤ, ⊤, ◌%◌, ◌&&◌, ◌*◌, ◌^◌}
pub use Rattle.std.specs.Vec.Iter.{into_iter_items, into_iter_len}
pub use Rattle.shm_base.specs.Access.{end_of}
pub use Rattle.shm_base.specs.Callers.{Caller, Outcome, caller_by, caller_from, caller_of}
pub use Rattle.shm_base.specs.Calls.{ProcessCall}
pub use Rattle.shm_base.specs.History.{IsHistory, IsMove, LeadsFrom, is_failure, is_refusal, own_part}
pub use Rattle.shm_base.specs.Identifier.{Found, Invalid, Look, Removed, destroyed_at, identifier, look}
pub use Rattle.shm_base.specs.Mapping.{Protected, done_or, has_protection, munmap, protects_from, protects_piece, protects_pieces, rounded, turned, unmaps}
pub use Rattle.shm_base.specs.Permission.{grants}
pub use Rattle.shm_base.specs.Processes.{has_pid}
pub use Rattle.shm_base.specs.Rules.{pieces_are_enomem, removed_is_invalid}
pub use Rattle.shm_base.specs.Space.{choose_beside, covering, cut, end_address, inside, origin_of}
pub use Rattle.shm_base.specs.State.{Ended, Life, Live, Machine, Piece, Runner, Segment, Unborn, life_at_start, pages_in, pages_of, runner_at_start, start_of}
pub use Rattle.shm_base.specs.Step.{acts, at_wish, attaches_if, base_for, detaches, fixed_base, host_ranges, if_few, is_full, is_misplaced, is_taken, is_unborn, outside_errno, pieces_beside, pieces_with, placed, placed_at, placed_found, shmat, shmget, step_by, unborn_from}
pub use Rattle.shm_base.specs.declared.call.Call.TheVariants.{Exec, Exit, Mprotect, Munmap, Shmat, Shmdt, Shmget}
pub use Rattle.shm_base.specs.declared.call.Event.{Event}
pub use Rattle.shm_base.specs.declared.call.Placed.{Placed}
pub use Rattle.shm_base.specs.declared.call.Process.{Process}
pub use Rattle.shm_base.specs.declared.call.Reply.{Reply}
pub use Rattle.shm_base.specs.declared.call.Reply.TheVariants.{Done, Refused}
pub use Rattle.shm_base.specs.declared.errno.Errno.{Errno}
pub use Rattle.shm_base.specs.declared.errno.Errno.TheVariants.{Enomem, Esrch}
pub use Rattle.shm_base.specs.declared.flags.AtFlags.{AtFlags}
pub use Rattle.shm_base.specs.declared.flags.GetFlags.{GetFlags}
pub use Rattle.shm_base.specs.declared.owner.Cred.{Cred}
pub use Rattle.shm_base.specs.declared.paging.FlushReport.{FlushReport}
pub use Rattle.shm_history.proofs.Sent.{keeper_send, world_send}
pub use Rattle.shm_history.specs.Gauges.{CellName, Seat, StartsWith, has_gauge, reading_of, stores}
pub use Rattle.shm_history.specs.WorldState.{IsRound, WorldState, event, tally_of}
pub use Rattle.shm_history.specs.declared.cell.Reading.{Reading}
pub use Rattle.shm_laws.proofs.Handing.{Hands, Leaves, hands-acts}
pub use Rattle.shm_laws.proofs.Refusing.{by-move}
pub use Rattle.shm_laws.specs.Pieces.{hands_pieces}
pub use Rattle.shm_life.proofs.Asking.{by-shmget, pick}
pub use Rattle.shm_life.specs.Start.{are_pids}
pub use Rattle.shm_pager_core.specs.declared.pager.Pager.{Ghosts}
pub use Rattle.shm_slots.proofs.Causes.{GoesOn-refl, GoesOn-trans}
pub use Rattle.shm_text.specs.Form.{CommandView}
pub use Rattle.shm_text.specs.Script.{ScriptView}
pub use Rattle.shm_text.specs.Variables.{call_of, no_values, values_after}
pub use Rattle.shm_text.specs.declared.script.Line.{Line}
pub use Rattle.shm_text.specs.declared.script.Line.TheVariants.{Command, Flush}
pub use Rattle.shm_threads.specs.Asked.{Adds, After, Asked, Before, GoTo, IsNth, IsWithin, May, Round, RoundAsked, RunsLines, Stepped, asks_of, asks_of_rounds, rounds_of}
pub use Rattle.shm_threads.specs.Births.{with_birth, with_end}
pub use Rattle.shm_threads.specs.Ends.{CanEnd, CanStop, IsEnded, IsExpired, comes_before, ended_by, least}
pub use Rattle.shm_threads.specs.Entries.{is_marked}
pub use Rattle.shm_threads.specs.Keepers.{IsCaughtUp, IsKept, cell_of, stored_of}
pub use Rattle.shm_threads.specs.Moves.{AreMoves, Called, Flushed, Leads, Makes, Moment, Move, entries_by, entries_in, rounds_by, rounds_in}
pub use Rattle.shm_threads.specs.Outcomes.{AreAllMoves, IsOpened, IsOutcome, StartedFrom}
pub use Rattle.shm_threads.specs.Passed.{AreAllPassed, ArePassed, Passes}
pub use Rattle.shm_threads.specs.Running.{IsOver, IsProcessAt, IsRunning, IsTurn, RunView, can_come, goes_on_by, is_next}
pub use Rattle.shm_threads.specs.Strands.{IsAnswered, IsFresh, IsKeptAs, IsMade, IsStrand, IsUnderway, StandsAt, can_go, left_in, left_of, life_from, pid_of_strand, transcript_of}
pub use Rattle.shm_threads.specs.Transcripts.{Follows, HasEntries, HasLines, IsAdmitted, IsMarkAllowed, IsThrough, IsTranscript, callers_of, commands_in, commands_of, events_of, is_child, is_end, is_fork_of, is_forked, pid_in, pid_of, reply_in, transcript_events}
pub use Rattle.shm_threads.specs.declared.births.ProcessState.{ProcessState}
pub use Rattle.shm_threads.specs.declared.entry_list.Mark.{Mark}
pub use Rattle.shm_threads.specs.declared.outcome.RunError.{RunError}
pub use Rattle.shm_threads.specs.declared.strand.Strand.{Strand}
pub use Rattle.shm_threads.specs.declared.transcript.Answer.{Answer}
pub use Rattle.shm_threads.specs.declared.transcript.Answer.TheVariants.{HostMemory}
pub use Rattle.shm_threads.specs.declared.transcript.Entry.{Entry}
pub use Rattle.shm_threads.specs.declared.transcript.Transcript.{Transcript}
pub use denote.Param.Send.{IsSend, IsSync, sendable}
pub use denote.RattleType.{RattleType}
