-- The names that the proofs use: those of the crates below, and of the specs of this crate.
pub use Rattle.std.proofs.Common.{Bool, List, None, Option, Some, [], ap, append_assoc, arith, eq-eqb, false, get_or, if◌then◌else◌, inl, inr, is_none, length, length-append, map, nat_le, nat_lt, ne_eqb, negsuc, not, pos, refl, replicate, slice_get, slice_set, subst, suc, sym, true, true≢false, zero, ℕ, ℤ, ◌%◌, ◌&&◌, ◌*◌, ◌++◌, ◌+◌, ◌-◌, ◌/◌, ◌<◌, ◌==◌, ◌^◌, ◌||◌, ◌∙◌, ◌∷◌, ◌≡◌, ◌≢◌, ◌≤◌, ◌⊎◌}
pub use Rattle.std.proofs.lemmas.Bool.{and_parts, both_ways, cases_Bool, cases_eq, cases_lt, not-false, or_parts, or_right, cond_both}
pub use Rattle.std.proofs.lemmas.Grind.{common_steps}
pub use Rattle.std.proofs.lemmas.List.{append-nil, length-map, length-replicate}
pub use Rattle.std.proofs.lemmas.List.Concat.{flat_map-cons}
pub use Rattle.std.proofs.lemmas.List.Elements.{All-append, All-contains, All-filter, All-map, All-nil, All-weaker, Contains-get_or}
pub use Rattle.std.proofs.lemmas.List.Sums.{sum_by-cons}
pub use Rattle.std.proofs.lemmas.Option.{get_or_from_slice_get, none-some, slice_get-get_or, slice_get-map, slice_get_past, slice_get_within}
pub use Rattle.std.specs.Int.{from_le_bytes, to_le_bytes, w64}
pub use Rattle.std.specs.Prelude.{All, Contains, filter, option_map, ⊤, Err, Ok, Result, min}
pub use Rattle.shm_attach.proofs.Callers.{child_at, first_runner, CallerAt, caller-at, caller-set}
pub use Rattle.shm_attach.proofs.Keeping.{occupied-cut}
pub use Rattle.shm_attach.proofs.Processes.{length-inserted, one_more, pieces_of-cut_cons, pieces_of-filter, pieces_of-inserted, shorter_filter}
pub use Rattle.shm_attach.specs.Spaces.{life_in}
pub use Rattle.shm_attach.proofs.Protected.{keeps-pieces, protected-comes, protected-keeps, protected-laid, protected-none}
pub use Rattle.shm_attach.proofs.Turned.{Comes, IsAligned, IsOfAttach, IsPartOf, covers-from, covers-to, laid-aligned}
pub use Rattle.shm_attach.proofs.Names.{ArrangedBy, IsWhole, all-flat_map, all-inserted, all_above, all_kind, cut_by, inserted_by, some_by, whole_kind}
pub use Rattle.shm_base.specs.Access.{Place, all_writable, byte_at, byte_set, covers, end_of, loaded, only_writable, same_bytes, place, place_by, places, set_in, stored, with_byte, writable_places}
pub use Rattle.shm_base.specs.History.{IsExcused, IsHistory, IsMove, LeadsFrom, is_failure, is_refusal}
pub use Rattle.shm_base.specs.Identifier.{Found, Invalid, Look, Removed, destroyed_at, destroyed_in, find_key, free_from, free_index, has_key, identifier, key_from, look, look_entry, look_segment, with_segment}
pub use Rattle.shm_base.specs.Permission.{grants, owns, wish_of}
pub use Rattle.shm_base.specs.Processes.{pieces_of_caller}
pub use Rattle.shm_base.specs.Locking.{lock_refusal, locks_as, unlocked}
pub use Rattle.shm_base.specs.Rules.{fork_marks, pieces_errno, rest_is_attached}
pub use Rattle.shm_base.specs.Segments.{attach_all, attach_count, attached, change, change_all, detach_all, detached, marked, swept, swept_at, swept_from, with_entry}
pub use Rattle.shm_base.specs.Space.{cut, cut_segments, first_chosen, inserted, inside, is_named, end_address, lowest_address, meets, occupied, origin_of, part_above, part_below, parts, pieces_of, without_named, choose_beside, is_free_gap, least_where, lesser}
pub use Rattle.shm_base.specs.State.{Ended, Entry, Life, Live, Machine, Opening, Piece, Runner, Segment, Unborn, pages_in, pages_of, runner_at_start, start_of}
pub use Rattle.shm_base.specs.Callers.{Caller, Outcome, caller_from, caller_of, gives, refuses, with_cred, with_pieces}
pub use Rattle.shm_base.specs.Mapping.{mprotect, protects_pieces, rests, rounded, unmaps, unmapped_to}
pub use Rattle.shm_base.specs.Step.{acts, at_wish, compare_exchange, exchange, inherited, is_full, is_no_owner, is_taken, is_misplaced, attaches_if, base_for, chosen_base, fixed_base, controls, detaches, forks, is_remap, load, locks, locks_unless, new_segment, number_at, piece_for, pieces_beside, pieces_with, placed, placed_at, placed_found, removes, segments_of, sets, shmget, stat, step, step_by, store, swapoff, takes_away, unborn_from, unlocks, xadd, host_ranges, outside_errno}
pub use Rattle.shm_base.specs.declared.owner.Cred.{Cred}
pub use Rattle.shm_base.specs.Calls.{ProcessCall}
pub use Rattle.shm_base.specs.declared.call.Call.TheVariants.{CompareExchange, Exchange, Exec, Exit, Fork, Load, Lock, Mprotect, Munmap, Rmid, Set, Setuid, Shmat, Shmdt, Shmget, Stat, Store, Swapoff, Unlock, Xadd}
pub use Rattle.shm_base.specs.declared.call.Event.{Event}
pub use Rattle.shm_base.specs.declared.call.Placed.{Placed}
pub use Rattle.shm_base.specs.declared.call.Process.{Process}
pub use Rattle.shm_base.specs.declared.call.Reply.{Reply}
pub use Rattle.shm_base.specs.declared.call.Reply.TheVariants.{Addr, Bytes, Done, Id, Number, Refused}
pub use Rattle.shm_base.specs.declared.call.ShmidDs.{ShmidDs}
pub use Rattle.shm_base.specs.declared.errno.Errno.{Errno}
pub use Rattle.shm_base.specs.declared.errno.Errno.TheVariants.{Eacces, Einval, Enomem, Esrch}
pub use Rattle.shm_base.specs.declared.flags.AtFlags.{AtFlags}
pub use Rattle.shm_base.specs.declared.flags.GetFlags.{GetFlags}
pub use Rattle.shm_history.proofs.Clear.{clear_step, failures-cons, first_clear, rest_clear}
pub use Rattle.shm_history.proofs.Histories.{history_more}
pub use Rattle.shm_history.specs.WorldState.{calls_of, failures_in}
pub use Rattle.shm_life.proofs.Pieces.{all-cons, all-head, all-slice_set, all-tail, all-at}
pub use Rattle.shm_life.proofs.Asking.{IsFree, by-shmget, is-zero, pick, pick_by}
pub use Rattle.shm_life.proofs.Leaving.{count-named, had-count}
pub use Rattle.shm_segments.proofs.Entries.{get-set_other, get-set_same, length-slice_set, sum-set}
pub use Rattle.shm_segments.specs.Orphan.{orphan, orphan_in}
pub use Rattle.shm_segments.specs.Table.{segment_in}
pub use Rattle.shm_laws.specs.Identity.{IsMadeBy, IsSame, KeepsNames, NamesAnew, NamesOneSegment, StandsAs, AreMade}
pub use Rattle.shm_laws.specs.Isolation.{DifferIn, HasNone, IsAsked, IsBlindOn, IsIsolated, IsPrivate, veil, veiled_from}
pub use Rattle.shm_laws.specs.Keys.{FindsByKey, HasKey, IsCreated, KeepsKeys, KeysAreApart, KeysLeadToOne}
pub use Rattle.shm_laws.specs.Lawful.{IsLawful}
pub use Rattle.shm_laws.specs.Permission.{GoesBack, Granted, Inherited, IsBornWith, IsGranted, IsInherited, IsAskedFor, IsPart, IsProtected, IsUserZero, KeepsCredentials, KeepsOut, Kept, MayAsk, NoWayIn, OwnerAsks, Protected, Reach, ShareTheirPages, StaysInside, controlled, reach}
pub use Rattle.shm_laws.specs.Pieces.{ChangesItsOwn, CountsPieces, GivesPieces, IsFreeFor, PiecesAreOfSegments, PiecesNameWhatStands, hands_pieces, piece_count, stops_midway}
pub use Rattle.shm_laws.specs.Removal.{AreRemoved, DestroysWhatIsDue, GoesWhenItMust, IsDue, IsMarked, IsRemoval, KeepsMarks, MarkedHavePieces, Removes}
pub use Rattle.shm_laws.specs.Replay.{IsReplayed, undone, without_failures}
pub use Rattle.shm_laws.specs.Size.{AllFillPages, FillsPages, HaveTheirPages, KeepsSizes}
pub use Rattle.shm_laws.specs.Spaces.{AreLaidOut, LieApart, LiesInside, SpacesAreLaidOut}
pub use Rattle.shm_laws.specs.Standing.{Began, EachMove, EachPiece, HasPiece, IsGone, Lasted, MomentsBy, MovesBy, Since, Stands}
pub use Rattle.shm_laws.specs.Worked.{IsLegal, a_store_fails, one_key, one_remaps, opening, others_read, stores_own, three, two_go, two_write}
pub use Rattle.shm_laws.specs.Writing.{AreLast, HasLastWriters, IsByte, IsLast, Makes, Put, Recalls, Remembers, Spares, Writes, put}
