-- The names that the proofs use: those of the crates below, and of the specs of this crate.
pub use Rattle.std.proofs.Common.{Bool, Err, List, None, Ok, OnErr, OnOk, Option, Result, Some, [], ap, append-nil, append_assoc, arith, cond, drop, eqb, false, filter, get_or, get_or-set_other, get_or-set_same, inl, inr, is_none, is_ok, is_some, leb, length, length-append, length-drop, length-set, map, not, refl, replicate, rules, set, set-set, suc, sum_by, sym, take, true, true≢false, zero, ℕ, ◌%◌, ◌&&◌, ◌*◌, ◌++◌, ◌+◌, ◌-◌, ◌/◌, ◌<◌, ◌∙◌, ◌∷◌, ◌≡◌, ◌≢◌, ◌≤◌, ◌⊎◌}
pub use Rattle.std.proofs.lemmas.Bool.{and_parts, cases_Bool, cases_eq, cases_lt, eq-eqb, eqb-true, false_from_ne_true, false≢true, le-leb, le-ltb, lt-leb, lt-ltb, ne_eqb, not-false, not-true}
pub use Rattle.std.proofs.lemmas.Bool.Decides.{eqb_tells, nat_tests}
pub use Rattle.std.proofs.lemmas.Grind.{common_steps}
pub use Rattle.std.proofs.lemmas.List.{drop-append-le, drop_more, get_or-map, get_or-replicate, get_or_default, get_or_past, length-map, length-replicate, length-take, length_push, map-set, replicate-append-replicate, set-get_or, take-append-le, take_all}
pub use Rattle.std.proofs.lemmas.List.Elements.{All-get_or, All-head, All-push, All-tail, All-weaker, Contains-append_left, Contains-push, filter-append}
pub use Rattle.std.proofs.lemmas.List.Sums.{count_by-le-length, sum_by-cons, sum_by-le-sum_by, sum_by-set, sum_by_more, sum_by_push}
pub use Rattle.std.proofs.lemmas.Option.{none-some, slice_get_read}
pub use Rattle.std.proofs.lemmas.Result.{IfOk-weaker, MatchResult-from_err, err_from_is_err_and}
pub use Rattle.std.specs.List.{flat_map, position_or_len, range_with_len}
pub use Rattle.std.specs.Prelude.{All, Contains, IfOk, IsSome, MatchOption, count_by, find, if◌then◌else◌, option_map, position, slice_get, slice_index, take_while, unwrap_or}
pub use Rattle.shm_base.proofs.Stored.{get_or-padded, more-padded}
pub use Rattle.shm_base.specs.Stored.{padded}
pub use Rattle.shm_base.specs.declared.bounds.TheConstants.{INDEXES, MOST_FRAMES, MOST_SLOTS}
pub use Rattle.shm_base.specs.declared.paging.PageRef.{PageRef}
pub use Rattle.shm_base.specs.declared.paging.Slot.{Slot}
pub use Rattle.shm_base.specs.declared.paging.Span.{Span}
pub use Rattle.shm_pager_core.specs.Pages.{PagerView, SideCalls, next_count, pager_seen}
pub use Rattle.shm_pager_core.specs.declared.pager.PagerFault.{PagerFault}
pub use Rattle.shm_slots.proofs.Causes.{cause-before, failures-after, pages-same, size-at, spent-cause, unspent-before}
pub use Rattle.shm_slots.proofs.Rows.{length-owners, owners-at, owners-fault, owners-kept, owners-page, owners-set, owners-without}
pub use Rattle.shm_slots.proofs.Slots.{OnlySlot, OnlySlot-fault, OnlySlot-given, OnlySlot-owner, OnlySlot-page, cases_slot, owner-fault, owner-given, owner-set, owner-written, page-written}
pub use Rattle.shm_slots.specs.Cause.{GoesOn, IsSteady, had_cause, some_spent, total}
pub use Rattle.shm_slots.specs.Moving.{IsRelocated, Relocates, SameOwned, area_owners, own_slot, slot_owners}
pub use Rattle.shm_slots.specs.View.{AfterWriteFault, AreaView, HasSlot, IsArea, IsFirstFree, IsSwap, OneArea, SameSlots, SwapView, area_at, fresh, most_swap_slots, no_area, off, owner_of, page_in, size_of, sizes, slots_in, swap_slots, used_in, used_slots, with_area, with_new, with_slot_owner, with_slot_page, without_slot}
pub use Rattle.shm_frames.proofs.First.{before-position, position-none, position_is}
pub use Rattle.shm_frames.specs.Frame.{Frame, IsFrameBlank, OwnedBelow, dirty_of, frame_at, is_dirty, is_free, is_owned, no_frame, resident_of}
pub use Rattle.shm_clock.proofs.Eligible.{page_may_go, two_eligible}
pub use Rattle.shm_clock.proofs.Skipping.{skipped-none}
pub use Rattle.shm_clock.specs.Clock.{IsClockVictim, candidates, is_clear, is_pinned, is_referenced, may_go, next, owner_passes, passed_by, unset, unset_all, victim_of}
pub use Rattle.shm_clock.specs.Skips.{AreSkipped}
pub use Rattle.shm_fault.specs.Access.{Accessed, Brings, IsUntouched, Paged, Visited}
pub use Rattle.shm_fault.specs.Acting.{Acts, HasOld, PutAt, Puts}
pub use Rattle.shm_fault.specs.Apart.{AreHeldApart}
pub use Rattle.shm_fault.specs.Counting.{CountsOn, IsUncounted, Transfers, counted, no_transfers, one_if, raised}
pub use Rattle.shm_fault.specs.Dropping.{Dropped, Drops, DropsOn, Forgets, Frees, Given, emptied}
pub use Rattle.shm_fault.specs.Entries.{AreIndexed, present}
pub use Rattle.shm_fault.specs.Flushing.{IsFlushed, dirty_after, may_flush}
pub use Rattle.shm_fault.specs.Goes.{Alike, CountsFailure, Goes, IsSeenIn, KeepsLocked, MovesOn, Outline, StaysAway, Visits, frame_by, outline, outlines, referenced_at, unlocked}
pub use Rattle.shm_fault.specs.Held.{FitsPage, Held, bytes_of, find_held, held_id, held_pages, holds_locked, is_held, lock_changed, locked_pages_in_store, pages_if_locked, pages_in_store, paste, pasted, read_from, span_bytes, with_lock, with_zeros, without, written}
pub use Rattle.shm_fault.specs.Moving.{Clears, IsCleared}
pub use Rattle.shm_fault.specs.Ordered.{inserted}
pub use Rattle.shm_fault.specs.Placing.{Places, StopsAt, StopsAtMove, StopsAtWrite, StopsMoving, after_flush, after_moves, after_page_out, after_visit, bare, frame_freed, free_from, free_slot, is_left_out, moves_page, owner_in, places, referenced, slot_freed, slotted, victim_in, visit_counted, visited_in, with_bit}
pub use Rattle.shm_fault.specs.Segs.{AreApart, HasPage, IsIndexFree, NowhereUpTo, SegRec, but, count_by_id, find_seg, locked_by, locked_pages, new_seg, no_page, page_count, rec_at, rec_by, seg_id, seg_with, with_rec, with_seg, with_seg_lock}
pub use Rattle.shm_fault.specs.Sound.{IsStoreSound, IsTied, Tied}
pub use Rattle.shm_fault.specs.Store.{IsResident, Still, StoreView, bytes_by, dirty, dirty_in, disowned, fresh_store, has_frame, has_slot, held, held_by, is_dirty_page, is_page, is_swapped, page_bytes, page_of, ref_of, resident, slot_bytes, swapped_pages, used}
pub use Rattle.shm_fault.specs.declared.page_tables.PageRec.{PageRec}
pub use Rattle.shm_fault.specs.declared.store.PageStore.TheInside.{Inside}
pub use Rattle.shm_fault.specs.declared.touched.PageMove.TheVariants.{Came, Gone}
pub use Rattle.shm_fault.specs.declared.touched.Touched.{Touched}

-- a store as its fields show it
abbrev pub seen : {X : Type 0} → Inside X → StoreView
seen i = record { segs = i.segs; frames = i.frames; hand = i.hand; swap = i.swap; ins = i.ins; outs = i.outs }
