-- The names that the proofs use: those of the crates below, and of the specs of this crate.
pub use Rattle.std.proofs.Common.{Bool, List, None, Some, [], ap, arith, drop, eq-eqb, false, filter, get_or, if◌then◌else◌, inl, inr, is_none, length, nat_lt, ne_eqb, not, of_z, pos, refl, replicate, rules, subst, suc, sym, take, to_z, true, w32, zero, ℕ, ℤ, ◌%◌, ◌&&◌, ◌*◌, ◌++◌, ◌+◌, ◌-◌, ◌/◌, ◌<◌, ◌==◌, ◌∙◌, ◌∷◌, ◌≡◌, ◌≢◌, ◌≤◌, ◌⊎◌, Option, cond, count_by, map, nat_le, negsuc, option_map, set, slice_get, slice_set, sum_by, true≢false, ◌^◌, ◌||◌}
pub use Rattle.std.proofs.Math.Seq.{drop-cons, take-append_seam}
pub use Rattle.std.proofs.lemmas.Bool.{cases_Bool, cases_eq, cases_lt, le-ltb, lt-ltb, cond_both, false≢true, not-false}
pub use Rattle.std.proofs.lemmas.Bool.Decides.{nat_tests}
pub use Rattle.std.proofs.lemmas.Grind.{common_steps, get_or-set_at}
pub use Rattle.std.proofs.lemmas.List.{drop_all, get_or-replicate, get_or_past, length-append, length-replicate, drop_more, length-map, take-replicate, get_or-set_other, get_or-take, get_or_default, length-set, length-take, length_push}
pub use Rattle.std.proofs.lemmas.List.Concat.{flat_map-cons}
pub use Rattle.std.proofs.lemmas.List.Elements.{All-append, All-filter, All-map, All-nil, All-cons, All-head, All-tail, All-take, All-weaker}
pub use Rattle.std.proofs.lemmas.List.Kept.{AllPairs-cons}
pub use Rattle.std.proofs.lemmas.List.Sums.{get_or-le-sum_by, sum_by-append, sum_by-cons, sum_by_more}
pub use Rattle.std.proofs.lemmas.Option.{none-some, slice_get-get_or, slice_get_past, slice_get_within, get_or_from_slice_get}
pub use Rattle.std.specs.Prelude.{All, AllPairs, OnErr, OnOk, find, is_err, slice_index_or, Err, IfOk, IfSome, Ok, Result, is_ok, is_some, nat_eq, swap_remove, IfErr, IsSome}
pub use Rattle.std.specs.Int.{from_le_bytes, to_le_bytes, w64}
pub use Rattle.std.proofs.Math.ListN.{get_or-map}
pub use Rattle.shm_areas.specs.Arranged.{bare_all}
pub use Rattle.shm_areas.proofs.Passing.{all-cut, all-inserted}
pub use Rattle.shm_areas.specs.declared.piece.Piece.{Piece as Stored}
pub use Rattle.shm_attach.proofs.Callers.{caller_there, as_caller, caller-at, caller-set, caller_from-first, child_at, first-apart, first_runner}
pub use Rattle.shm_attach.proofs.FlatSteps.{load-wanted, pieces_by-caller, shmdt-named, store-wanted, are_asked, loaded-unmarked, stored-unmarked}
pub use Rattle.shm_attach.proofs.Keeping.{pieces_of-there}
pub use Rattle.shm_attach.proofs.Processes.{one_more, pieces_of-cut_met, pieces_of-inserted, pieces_of-without, shorter_filter}
pub use Rattle.shm_attach.specs.Fork.{born_child}
pub use Rattle.shm_attach.specs.Spaces.{AreTrue, IsCaller, Translation, caller_seen, pieces_at, IsOnlyAt, SpacesView}
pub use Rattle.shm_attach.specs.Spans.{PassPages, pieces_by, wanted, wanted_in, AreSpans, unmarked}
pub use Rattle.shm_attach.specs.declared.process.Child.{Child}
pub use Rattle.shm_attach.specs.Mapping.{KeepsOwn, refusal_in}
pub use Rattle.shm_attach.specs.declared.process.Caller.{Caller as Called}
pub use Rattle.shm_base.specs.Access.{Place, end_of, loaded, set_in, byte_at, entry_byte_set, only_writable, places, same_bytes, stored, with_byte, writable_places}
pub use Rattle.shm_base.specs.Bounds.{Bounds, lockable, within}
pub use Rattle.shm_base.specs.History.{is_refusal, IsMove, is_failure}
pub use Rattle.shm_base.specs.Identifier.{destroyed_at, destroyed_in, free_from, free_index, identifier, look, with_segment, Found, Invalid, Look, Removed, find_key, has_key, key_from, look_entry, look_segment}
pub use Rattle.shm_base.specs.Permission.{grants, wish_of}
pub use Rattle.shm_base.specs.Segments.{attach_all, attach_count, attached, change, change_all, detach_all, detached, locked, marked, pages_held, pages_locked, reserved, swept, swept_at, swept_from, with_entry, after_detach, locked_by_user, pages_locked_by, segment_count, slots}
pub use Rattle.shm_base.specs.Space.{cut, cut_segments, leaves_rest, rest_segments, has_origin, inserted, is_named, meets, origin_of, part_above, part_below, parts, pieces_of, without_named, choose_beside, end_address, is_reserved, ranges_of}
pub use Rattle.shm_base.specs.Spans.{InPage, page_of, span_places, run}
pub use Rattle.shm_base.specs.State.{Entry, Life, Live, Machine, Piece, Runner, Segment, pages_of, runner_at_start, Ended, pages_in}
pub use Rattle.shm_base.specs.Callers.{Outcome, gives, refuses, Caller, Caller as FlatCaller, caller_of, with_cred, with_end, with_pieces}
pub use Rattle.shm_base.specs.Step.{at_wish, attaches_if, base_for, if_few, is_misplaced, locks, locks_unless, piece_for, pieces_beside, pieces_with, placed, placed_at, segments_of, shmat, swapoff, acts, compare_exchange, controls, creates, creates_at, creates_small, detaches, exchange, forks, gets, huge_errno, inherited, is_no_owner, load, new_segment, number_at, placed_found, removes, sets, shmget, stat, step, step_by, store, takes_away, unborn_from, unlocks, wants_creation, wants_no_other, xadd}
pub use Rattle.shm_base.specs.declared.call.Placed.{Placed}
pub use Rattle.shm_base.specs.declared.call.Process.{Process}
pub use Rattle.shm_base.specs.declared.call.Reply.TheVariants.{Bytes, Done, Addr, Id, Number, Refused}
pub use Rattle.shm_base.specs.declared.errno.Errno.TheVariants.{Enomem, Eacces, Eexist, Einval, Enoent, Enospc, Eperm, Esrch, Sigbus, Sigsegv}
pub use Rattle.shm_base.specs.declared.flags.AtFlags.{AtFlags}
pub use Rattle.shm_base.specs.declared.paging.PageRef.{PageRef}
pub use Rattle.shm_base.specs.declared.paging.Span.{Span}
pub use Rattle.shm_fault.proofs.Sound.{GoesOn-refl, frame-own}
pub use Rattle.shm_fault.proofs.Whole.{pages_in_store-is}
pub use Rattle.shm_fault.specs.Access.{Accessed, answer_of, NameFrames, Paged}
pub use Rattle.shm_fault.specs.Segs.{SegRec, find_seg, HasPage, rec_by, with_seg_lock}
pub use Rattle.shm_fault.specs.Sound.{IsStoreSound}
pub use Rattle.shm_fault.specs.Steps.{MovesLead}
pub use Rattle.shm_fault.specs.Store.{StoreView, frame_of, held_by, used, IsResident, is_page, ref_of}
pub use Rattle.shm_fault.specs.declared.touched.PageMove.{PageMove}
pub use Rattle.shm_fault.specs.declared.touched.Touched.{Touched}
pub use Rattle.shm_ids.proofs.Flat.{change-index}
pub use Rattle.shm_pager_core.specs.Pages.{SideCalls, pager_seen}
pub use Rattle.shm_fault.proofs.Found.{find-without_other}
pub use Rattle.shm_fault.specs.Allowed.{IsAccess}
pub use Rattle.shm_fault.specs.Apart.{AreHeldApart}
pub use Rattle.shm_fault.specs.Held.{Held, find_held, is_held, without, FitsPage, holds_locked}
pub use Rattle.shm_fault.specs.Goes.{frame_by}
pub use Rattle.shm_fault.specs.declared.act.Act.{Act}
pub use Rattle.shm_fault.specs.declared.act.Act.TheVariants.{Add, Nothing, Put, PutIfEqual}
pub use Rattle.shm_fault.specs.Counting.{Transfers, counted, no_transfers}
pub use Rattle.shm_segments.proofs.Entries.{get-set_other, get-set_same, length-slice_set, sum-set}
pub use Rattle.shm_segments.proofs.Finding.{live-found}
pub use Rattle.shm_segments.proofs.Remembered.{memory-refl, memory-trans, view_of}
pub use Rattle.shm_segments.proofs.Same.{SamePages, SameTable, attach_all-same, change-left, change-locked, change-pages, change-same, detach_all-same, same-refl, same-trans, stored-same}
pub use Rattle.shm_segments.specs.Joined.{segment_of, whole}
pub use Rattle.shm_segments.specs.Orphan.{identifier_at, id_in, is_orphan, orphan, orphan_in}
pub use Rattle.shm_segments.specs.Table.{IsFound, IsLive, SpanFits, created, destroyed, live, look_of, made, page_there, pages_at, relocked, reowned, segment_seen, live_in, segment_in, table_with}
pub use Rattle.shm_segments.specs.View.{KeepsMemory, SegmentsView, ShowsTable, IsTableExact, as_held}
pub use Rattle.shm_segments.specs.declared.head.Head.{Head}
pub use Rattle.shm_segments.specs.Staying.{Ends, MovesNone}
pub use Rattle.shm_segments.proofs.Staying.{ends-refl, ends-trans, moves-refl}
pub use Rattle.shm_segments.proofs.Again.{again, dirtied-again, visited}
pub use Rattle.shm_slots.specs.Cause.{Counts}
pub use Rattle.shm_slots.specs.View.{AreaView, IsAreaSize, SwapView, area_at, fresh, new_swap, no_area, owner_of, size_of, sizes}
pub use Rattle.shm_life.specs.Sound.{IsTableSoundBut, IsTableSound, IsWell, IsWellBut, AreProcesses}
pub use Rattle.shm_life.specs.MachineView.{KeepsOn, Answered, AnsweredBy, AnsweredTo, IsFailed, MachineView, Served, done, is_lock, replied, reply_in}
pub use Rattle.shm_life.specs.Orphans.{MayBeSwept, OrphansAmong, Sweeps, is_among}
pub use Rattle.shm_life.specs.Start.{are_pids, are_sizes, start_error}
pub use Rattle.shm_base.specs.Processes.{has_pid, pieces_of_caller}
pub use Rattle.shm_base.specs.declared.bounds.TheConstants.{INDEXES, LAST_PID, MOST_FRAMES, MOST_PROCESSES, MOST_SHMALL, MOST_SLOTS}
pub use Rattle.shm_base.specs.Rules.{fork_marks, pieces_errno, rest_is_attached}
pub use Rattle.shm_base.specs.declared.owner.Cred.{Cred}
pub use Rattle.shm_base.specs.declared.call.Reply.{Reply}
pub use Rattle.shm_base.specs.declared.errno.Errno.{Errno}
pub use Rattle.shm_base.specs.Calls.{ProcessCall}
pub use Rattle.shm_base.specs.declared.flags.GetFlags.{GetFlags}
pub use Rattle.shm_base.specs.declared.guest.HostRange.{HostRange}
pub use Rattle.shm_base.specs.Stored.{padded}
pub use Rattle.shm_base.specs.Mapping.{Protected, after_cut, after_split, done_or, mprotect, protects, protects_pieces, rests, unmapped_to, unmaps}
pub use Rattle.shm_base.specs.declared.call.Call.TheVariants.{CompareExchange, Exchange, Exec, Exit, Fork, Load, Lock, Mprotect, Munmap, Rmid, Set, Setuid, Shmat, Shmdt, Shmget, Stat, Store, Swapoff, Unlock, Xadd}
pub use Rattle.shm_base.specs.Guest.{Standing, is_ended, is_live, is_range, joins, joins_beside, leaves, leaves_found, left_by, position_from, standing}
pub use Rattle.shm_base.specs.declared.guest.AdmitRefusal.{AdmitRefusal}
pub use Rattle.shm_base.specs.declared.guest.DismissRefusal.{DismissRefusal}
pub use Rattle.shm_base.specs.declared.memory.HostMemory.{HostMemory}
pub use Rattle.shm_base.specs.Locking.{lock_refusal, locks_as, may_not_lock, passes_limit, unlocked}
pub use Rattle.shm_life.specs.Tied.{PieceFits, PiecesFit}
pub use Rattle.shm_life.specs.Paging.{ComeIn, ComeInUpTo, CountsPages, Did, DidUpTo, Pages, Paging, comparing, page_of_byte, page_spans, pages_after, pages_of_bytes, paging_by, touching, whole_page}
pub use Rattle.shm_life.specs.Paging.Paging.{Rests, Touches}
pub use Rattle.shm_life.specs.SystemState.{Replied, SystemState, most_calls, seen, time_by, time_of}
pub use Rattle.shm_life.specs.Changing.{ChangesAreCounted, changed_by, changes_of, counted_after, counted_for}
pub use Rattle.shm_life.specs.Accessing.{Does, DoesAt, DoesBy, LeavesOrFails, call_of, reply_of}
pub use Rattle.shm_life.specs.Lending.{lend_refusal, page_seen, page_shown, return_refusal}
pub use Rattle.shm_life.specs.Residency.{away_in, is_away, resident_below}
pub use Rattle.shm_life.specs.Notices.{IsAllTold, is_untold, told_at}
pub use Rattle.shm_life.specs.Inherited.{segments_in}
