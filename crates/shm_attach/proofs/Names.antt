-- The names that the proofs use: those of the crates below, and of the specs of this crate.
pub use Rattle.std.proofs.Common.{Bool, List, None, Option, Some, [], add-one, ap, append-nil, arith, cond, drop, drop-cons, eq-eqb, false, filter, get_or, if◌then◌else◌, inl, inr, length, length-set, length-take, map, nat_eq, nat_lt, ne_eqb, not, option_map, refl, set, slice_get, subst, suc, sym, take, true, zero, ℕ, ◌%◌, ◌&&◌, ◌*◌, ◌++◌, ◌+◌, ◌-◌, ◌/◌, ◌<◌, ◌==◌, ◌∙◌, ◌∷◌, ◌≡◌, ◌≢◌, ◌≤◌, ◌⊎◌, append_assoc, length-append, rules}
pub use Rattle.std.proofs.lemmas.Bool.{cases_Bool, cases_eq, cases_lt, eqb-false, eqb-true, le-leb, le-ltb, lt-leb, lt-ltb, true≢false, cond_both}
pub use Rattle.std.proofs.lemmas.Grind.{common_steps, get_or-set_at}
pub use Rattle.std.proofs.lemmas.List.{map-set, get_or-map, get_or-take, length-map, map-append, set-get_or, set-set, take_all, take_more, get_or-set_other, get_or-set_same, get_or_past, take-map}
pub use Rattle.std.proofs.lemmas.List.Elements.{All-append, All-cons, All-filter, All-head, All-nil, All-tail, filter_passes, All-contains, All-contains_itself, All-weaker, Contains-get_or, same_from_all_zip}
pub use Rattle.std.proofs.lemmas.List.Quantifiers.{position-Some}
pub use Rattle.std.proofs.lemmas.List.Sums.{count_by-le-length, fails_before_first, length-filter, sum_by-append, sum_by-cons, sum_by-set, sum_by-swap_remove}
pub use Rattle.std.proofs.lemmas.Option.{slice_get-map, get_or_from_slice_get, gets, none-some, slice_get-get_or, slice_get_cases, slice_get_within, slice_get_past}
pub use Rattle.std.proofs.lemmas.Result.{IfOk-weaker, err_from_is_err_and}
pub use Rattle.std.proofs.lemmas.Simd.{map-map}
pub use Rattle.std.specs.List.{flat_map, position_or_len, IsDistinct}
pub use Rattle.std.specs.Map.{keys_of, values_of}
pub use Rattle.std.specs.Prelude.{◌^◌, nat_le, All, option_to_list, position, vec_capacity, ⊤, Contains, IfSome, IsSome, Ok, is_some, max, min, slice_index_or, slice_set, swap_remove}
pub use Rattle.std.proofs.lemmas.List.Concat.{flat_map-cons}
pub use Rattle.indexmap.specs.IndexMap.{insert_entry, set_value_at}
pub use Rattle.indexmap.specs.Layout.{length-set_value_at}
pub use Rattle.shm_areas.proofs.Edits.{ArrangedBy, IsWhole, all_above, all_kind, arranged_cut, arranged_filter, arranged_inserted, bare_filter, cut_by, inserted_by, lower, some_by, whole_fit, whole_kind}
pub use Rattle.shm_areas.proofs.Passing.{all-flat_map, all-inserted, found-passes}
pub use Rattle.shm_areas.proofs.Placing.{fit_at, nothing, place_covering, bare-get_or, covering_low}
pub use Rattle.shm_areas.specs.Arranged.{Arranged, IsCovering, IsFit, SpaceView, bare, bare_all}
pub use Rattle.shm_areas.specs.Edit.{stored_cut, stored_inserted, stored_named, stored_parts, stored_without}
pub use Rattle.shm_areas.specs.Met.{met}
pub use Rattle.shm_base.specs.Processes.{pieces_of_caller}
pub use Rattle.shm_base.specs.Guest.{is_live, Standing, joins, standing, standing_from}
pub use Rattle.shm_base.specs.Access.{Place, all_writable, byte_at, covers, end_of, joined, loaded, only_writable, places, stored, with_byte, writable_places, place, place_by}
pub use Rattle.shm_base.specs.Segments.{after_detach, attach_count}
pub use Rattle.shm_base.specs.Space.{covering, cut, cut_segments, inserted, end_address, lowest_address, meets, occupied, origin_of, part_above, part_below, parts, pieces_of, without_named, is_named}
pub use Rattle.shm_base.specs.Spans.{page_of, run}
pub use Rattle.shm_base.specs.State.{Machine, runner_at_start, Live as Living, life_at_start, pages_of}
pub use Rattle.shm_base.specs.Callers.{caller_by, caller_from, gives, with_end, with_pieces, with_cred, Caller as FlatCaller}
pub use Rattle.shm_base.specs.Step.{is_unborn, load, shmdt, store, unborn_from}
pub use Rattle.shm_base.specs.declared.call.Process.{Process}
pub use Rattle.shm_base.specs.declared.call.Reply.TheVariants.{Bytes, Done}
pub use Rattle.shm_base.specs.declared.bounds.TheConstants.{MOST_PIECES, MOST_PROCESSES, MOST_SHMALL, LAST_PID}
pub use Rattle.shm_base.specs.declared.owner.Cred.{Cred}
pub use Rattle.shm_base.specs.declared.paging.PageRef.{PageRef}
pub use Rattle.shm_base.specs.declared.paging.Span.{Span}
pub use Rattle.shm_base.specs.Mapping.{Protected, ended, has_protection, high_end, low_end, own_cut, part_between, protects_from, protects_piece, protects_pieces, rounded, stopped, turned, with_split}
pub use Rattle.shm_base.specs.declared.errno.Errno.TheVariants.{Eacces, Einval, Enomem}
pub use Rattle.shm_base.specs.Stored.{padded}
pub use Rattle.shm_base.proofs.Stored.{get_or-padded, length-padded}
pub use Rattle.shm_fault.specs.Steps.{moved}
pub use Rattle.shm_fault.specs.Store.{StoreView, frame_of}
pub use Rattle.shm_fault.specs.declared.touched.PageMove.{PageMove}
pub use Rattle.shm_fault.specs.declared.touched.PageMove.TheVariants.{Gone}
pub use Rattle.slab.specs.Slab.{Slab, Updates, get, with_value, IsSlotClone}
pub use Rattle.shm_attach.specs.Table.{AllTrue, TrueTable, TrueSlot, count_in, frame_in, seg_in, size_in, translations_from, translations_in, translations_of, with_frame, TableView}
pub use Rattle.shm_attach.specs.Exact.{AreCountsExact, AreTablesSound, HasReservations, most_of_segment, no_reservations, one_reserved}
pub use Rattle.shm_attach.specs.Lost.{LostView}
pub use Rattle.shm_attach.specs.Place.{IsPlaceFor, IsRange}
pub use Rattle.shm_attach.specs.Spaces.{AreTrue, IsCaller, SpacesView, Translation, caller_seen, life_at, pieces_at, IsOnlyAt}
pub use Rattle.shm_attach.specs.Spans.{pieces_by, unmarked, wanted_in, HasPages}
pub use Rattle.shm_attach.specs.Tables.{AllHaveTables, HasTable, OneTableEach, counted, counted_under, key_of, stored_at, stored_in, AreSameTables, KeepCounts, KeepFrames, KeepTables}
pub use Rattle.shm_attach.specs.Views.{HaveRoom, life_view, most_at, runner_view, runners_view, some_if, with_life_at, with_other_life, with_own, with_pieces_at, most_in}
pub use Rattle.shm_attach.specs.declared.process.Life.TheVariants.{Ended, Live, Unborn}
pub use Rattle.shm_attach.specs.declared.tables.Tables.{Tables}
pub use Rattle.shm_attach.specs.declared.process.Life.{Life}
pub use Rattle.shm_attach.specs.declared.process.Runner.{Runner}
pub use Rattle.shm_attach.specs.Failing.{first_absent, first_failed, is_allowed}
pub use Rattle.shm_attach.specs.Mapping.{AreNow, CanReplace, Grows, IsPageRange, IsStretch, KeepsOwn, continued, held, noted, protected_between, protected_by, refusal_in, split_in, with_own_pieces}
pub use Rattle.shm_attach.specs.Changes.{attached_at, without_attach, without_segment}
pub use Rattle.shm_attach.specs.declared.process.Caller.{Caller}
pub use Rattle.shm_attach.specs.Keys.{entry_at}
pub use Rattle.shm_areas.specs.declared.piece.Piece.{Piece, Piece as Stored}
