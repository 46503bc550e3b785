-- The names that the proofs use: those of the crates below, and of the specs of this crate.
pub use Rattle.std.proofs.Common.{Bool, IsOk, List, None, Option, Some, [], ap, append-nil, append_assoc, arith, drop, false, get_or, get_or-set_same, if◌then◌else◌, inl, inr, length, length-set, map, ne_eqb, not, of_z, pos, refl, rules, set, slice_get, subst, suc, sym, take, to_z, true, w32, zero, ℕ, ℤ, ◌%◌, ◌*◌, ◌++◌, ◌+◌, ◌-◌, ◌/◌, ◌<◌, ◌==◌, ◌∙◌, ◌∷◌, ◌≡◌, ◌≢◌, ◌≤◌, ◌⊎◌, option_map, Ok, is_some, replicate, Err, eq-eqb}
pub use Rattle.std.proofs.lemmas.Bool.{cases_eq, cases_lt, ltb-true, false≢true}
pub use Rattle.std.proofs.lemmas.Bool.Decides.{eqb_tells, nat_tests}
pub use Rattle.std.proofs.lemmas.Grind.{common_steps, take-set_at}
pub use Rattle.std.proofs.lemmas.List.{drop-set-lt, drop_more, length-replicate, map-append, set-get_or, take-append-drop}
pub use Rattle.std.proofs.lemmas.List.Filters.{sum_by-filter_both}
pub use Rattle.std.proofs.lemmas.List.Sums.{get_or-le-sum_by, sum_by-cons, sum_by-set, sum_by-take-le, sum_by_more, sum_by_push}
pub use Rattle.std.proofs.lemmas.Option.{get_or_from_slice_get, none-some, slice_get-get_or, slice_get_within}
pub use Rattle.std.specs.Prelude.{All, OnErr, OnOk, Result, slice_index, sum_by, slice_set, position, ◌&&◌}
pub use Rattle.shm_base.specs.Access.{Place, bytes_at, bytes_at_entry, entry_byte_set, loaded, set_in, stored, with_byte, same_bytes}
pub use Rattle.shm_base.specs.Identifier.{with_segment}
pub use Rattle.shm_base.specs.Segments.{attach_all, attached, change, change_all, detach_all, detached, locked, locked_by_user, marked, reserved, segment_count, with_entry, pages_held, pages_locked, pages_locked_by}
pub use Rattle.shm_base.specs.Spans.{run, span_places}
pub use Rattle.shm_base.specs.State.{Runner, Segment, pages_of, Entry as FlatEntry}
pub use Rattle.shm_base.specs.declared.bounds.TheConstants.{MOST_SHMALL, MOST_SHMMAX}
pub use Rattle.shm_base.specs.declared.errno.Errno.TheVariants.{Eidrm, Einval}
pub use Rattle.shm_base.specs.declared.paging.Span.{Span}
pub use Rattle.shm_base.specs.declared.paging.PageRef.{PageRef}
pub use Rattle.shm_fault.proofs.Ordered.{apart-zeros, but-inserted, find-zeros_other, find-zeros_same, sum-inserted}
pub use Rattle.shm_fault.proofs.Sound.{GoesOn-refl, GoesOn-trans}
pub use Rattle.shm_fault.proofs.Whole.{not-held, rec-added, held-added, rec-locked}
pub use Rattle.shm_fault.specs.Dropping.{IsBlank, Drops}
pub use Rattle.shm_fault.specs.Segs.{SegRec, but, find_seg, new_seg, rec_in, with_seg, HasPage, count_by_id, no_page, rec_by, with_seg_lock}
pub use Rattle.shm_fault.specs.Sound.{IsStoreSound}
pub use Rattle.shm_fault.specs.Steps.{LockedPagesStay}
pub use Rattle.shm_fault.specs.Store.{StoreView, frame_of, fresh_store, held, disowned}
pub use Rattle.shm_frames.specs.Frame.{Frame, frame_at, is_free, no_frame}
pub use Rattle.shm_ids.proofs.Entries.{at_past, at_row, at_row_other, at_set, at_set_other, with_key-with_value, with_row-end, with_row-few, with_row-within}
pub use Rattle.shm_ids.proofs.Flat.{at-table, change-flat, destroyed_at-flat, find_key-absent, find_key-flat, find_key-look, flat_from-make, flat_table-make, free_index-flat, length-flat, look-flat, past-flat, segment_count-flat, with_segment-flat}
pub use Rattle.shm_ids.proofs.Free.{free_found}
pub use Rattle.shm_ids.proofs.Look.{identifier-mod, live_looked, look-entry}
pub use Rattle.shm_ids.specs.Flat.{flat_answer, flat_entry, flat_found, flat_from, natural_of}
pub use Rattle.shm_ids.specs.Rows.{row_listed, row_shown}
pub use Rattle.shm_ids.specs.Table.{entry_at, find_key, identifier, index_of, key_at, look, row_count, unused, with_key, with_row, with_value, without_row, free_index, id_at}
pub use Rattle.shm_ids.specs.declared.table.LookRefused.TheVariants.{Invalid, Removed}
pub use Rattle.shm_ids.specs.declared.table.Row.{Row}
pub use Rattle.shm_fault.proofs.Found.{bytes_of-lock, find-without_other, find-without_same}
pub use Rattle.shm_fault.proofs.Kept.{apart-lock, apart-without, find-map, find_held-id, KeepsId, held-map}
pub use Rattle.shm_fault.proofs.Pasted.{apart-pasted, bytes_of-pasted_other, bytes_of-pasted_same, fits-pasted}
pub use Rattle.shm_fault.specs.Apart.{AreHeldApart}
pub use Rattle.shm_fault.specs.Held.{FitsPage, Held, IsIndexFree, held_bytes, held_id, bytes_of, find_held, is_held, holds_locked, locked_pages_in_store, pages_if_locked, held_pages, paste, pasted, read_from, with_lock, with_zeros, without, written, lock_changed, pages_in_store}
pub use Rattle.shm_fault.proofs.Pages.{has-same, other-true, outlines-with, rec-with, rec-with_other}
pub use Rattle.shm_fault.specs.Acting.{Acts, FitsRoom, PutAt, put_by, size_of}
pub use Rattle.shm_slots.specs.Cause.{GoesOn, total}
pub use Rattle.shm_slots.specs.View.{SwapView, owner_of, sizes}
pub use Rattle.shm_segments.specs.Joined.{Agree, Shape, joined_table, locked_in_row, locked_of_rows, pages_in_row, pages_of_rows, segment_of, shape_held, shape_row, whole, live_row, relocked_head, locked_by_in_row, locked_by_of_rows}
pub use Rattle.shm_segments.specs.Sound.{AreSegmentsSound, IsWhole, SizesFit}
pub use Rattle.shm_segments.specs.Orphan.{id_in, is_orphan, orphan, orphan_in, identifier_at}
pub use Rattle.shm_segments.specs.Table.{IsFound, SpanFits, created, destroyed, live_in, look_of, made, next_id, pages_at, refused_look, reowned, segment_seen, relocked, live, table_with}
pub use Rattle.shm_segments.specs.View.{KeepsMemory, SegmentsView, ShowsTable}
pub use Rattle.shm_segments.specs.declared.head.Found.{Found}
pub use Rattle.shm_segments.specs.declared.head.Head.{Head}
pub use Rattle.shm_ids.specs.declared.table.Entry.{Entry}
