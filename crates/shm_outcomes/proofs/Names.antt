-- The names that the proofs use: those of the crates below, and of the specs of this crate.
pub use Rattle.std.proofs.Common.{Contains, IsTrue, List, Some, [], ap, arith, drop, false, flat_map, get_or, inl, inr, length, length-append, map, refl, rules, slice_index_or, subst, sym, take, true≢false, ℕ, ◌++◌, ◌+◌, ◌<◌, ◌∙◌, ◌∷◌, ◌≡◌, ◌≤◌}
pub use Rattle.std.proofs.Math.Seq.{drop-cons, get_or-append_seam}
pub use Rattle.std.proofs.lemmas.Bool.{cases_Bool, cases_eq, cases_lt}
pub use Rattle.std.proofs.lemmas.Bool.Decides.{Decides-and, Decides-like}
pub use Rattle.std.proofs.lemmas.Grind.{common_steps}
pub use Rattle.std.proofs.lemmas.List.{append-nil, append_assoc, get_or-append_right, get_or-map, get_or_append_left, get_or_default, get_or_push, length-map, map-append}
pub use Rattle.std.proofs.lemmas.List.Elements.{All-append, All-cons, All-contains, All-head, All-map, All-more, All-nil, All-push, All-tail, All-weaker, Contains-append_left, Contains-append_right, Contains-get_or, Contains-push}
pub use Rattle.std.proofs.lemmas.List.Quantifiers.{all_pairs_push, position-Some}
pub use Rattle.std.proofs.lemmas.Map.Entries.{length-keys_of}
pub use Rattle.std.proofs.lemmas.Map.Made.{is_member-Decides, is_some-lookup}
pub use Rattle.std.proofs.lemmas.Option.{none-some, same_Some}
pub use Rattle.std.specs.Bool.{Decides}
pub use Rattle.std.specs.Cmp.{unsigned_Decides}
pub use Rattle.std.specs.Int.{to_le_bytes, w64}
pub use Rattle.std.specs.List.{AllPairs}
pub use Rattle.std.specs.Map.{keys_of, values_of}
pub use Rattle.std.specs.Prelude.{All, Bool, None, Option, cond, filter, is_some, nat_lt, not, option_map, slice_get, slice_set, suc, true, zero, ◌%◌, ◌&&◌, ◌-◌, ◌==◌, ◌^◌, ◌≢◌, ◌⊎◌}
pub use Rattle.indexmap.proofs.CallerLemmas.{insert_entry-new}
pub use Rattle.indexmap.specs.IndexMap.{IndexMap, get, index_of, insert_entry, keys}
pub use Rattle.shm_base.specs.Access.{Place, all_writable, byte_set, entry_byte_set, joined, loaded, only_writable, place, places, same_bytes, set_in, stored}
pub use Rattle.shm_base.specs.Callers.{Caller, Outcome, caller_of}
pub use Rattle.shm_base.specs.Calls.{ProcessCall}
pub use Rattle.shm_base.specs.History.{is_refusal}
pub use Rattle.shm_base.specs.Processes.{has_pid}
pub use Rattle.shm_base.specs.Rules.{fork_marks}
pub use Rattle.shm_base.specs.Segments.{attach_all, attached, change, with_entry}
pub use Rattle.shm_base.specs.State.{Entry, Machine, Segment}
pub use Rattle.shm_base.specs.Step.{acts, compare_exchange, exchange, forks, inherited, number_at, segments_of, step, step_by, store, unborn_from, xadd}
pub use Rattle.shm_base.specs.declared.call.Call.TheVariants.{CompareExchange, Exchange, Fork, Store, Xadd}
pub use Rattle.shm_base.specs.declared.call.Event.{Event}
pub use Rattle.shm_base.specs.declared.call.Process.{Process}
pub use Rattle.shm_base.specs.declared.call.Reply.{Reply}
pub use Rattle.shm_base.specs.declared.call.Reply.TheVariants.{Refused}
pub use Rattle.shm_base.specs.declared.errno.Errno.{Errno}
pub use Rattle.shm_base.specs.declared.errno.Errno.TheVariants.{Esrch}
pub use Rattle.shm_outcomes.specs.Changes.{Effects, all_changes, call_of, effects_after, effects_by, effects_from, effects_of, fits, is_above, is_below, is_fork, made, no_effects, patch_by, put, put_at, puts, write_at, wrote}
pub use Rattle.shm_outcomes.specs.Frontier.{AreAdded, AreExpanded, AreTooMany, Frontier, IsAdded, IsEndInserted, IsExpanded, IsOneTooMany, IsStopped, Path, State, empty_frontier, path, path_after, path_in, paths_after, state, state_in, states_in}
pub use Rattle.shm_outcomes.specs.Groups.{AreAllTransitions, ArePut, AreTransitions, Continues, Groups, IsAt, IsExtended, IsFrom, IsPut, IsTransition, StayThere, group_key_at, group_key_of, no_groups, relevant_all, relevant_key, relevant_replies, relevant_reply}
pub use Rattle.shm_outcomes.specs.Keys.{AreMoreKeys, AreOther, IsKeyOf, Key, key_of}
pub use Rattle.shm_outcomes.specs.Levels.{IsLevelFull, IsNextLevel, Level, first_level}
pub use Rattle.shm_outcomes.specs.Masking.{AreMaskedOutcomes, IsMaskedFinding, hidden, hidden_finding, hidden_outcome}
pub use Rattle.shm_outcomes.specs.Nodes.{Node, event_after, key_at, root, successor}
pub use Rattle.shm_outcomes.specs.Same.{same-effects}
pub use Rattle.shm_outcomes.specs.Search.{AreDistinct, AreMoreRuns, AreOutcomes, IfBound, IsCause, IsFinding, IsInserted, outcome_in, outcomes_in}
pub use Rattle.shm_outcomes.specs.Text.{findings_text, process_text}
pub use Rattle.shm_outcomes.specs.declared.effects.CallBy.{CallBy}
pub use Rattle.shm_outcomes.specs.declared.effects.Change.{Change}
pub use Rattle.shm_outcomes.specs.declared.effects.Change.TheVariants.{Made, Wrote}
pub use Rattle.shm_outcomes.specs.declared.effects.Patch.{Patch}
pub use Rattle.shm_outcomes.specs.declared.effects.Write.{Write}
pub use Rattle.shm_outcomes.specs.declared.transitions.Transition.{Transition}
pub use Rattle.shm_schedules.proofs.Going.{event_at, first-true, map-head, map-tail, masked-next, not-first, one-more, replies-after, replies-more, replies-one, replies-same, same-if, same-step, still}
pub use Rattle.shm_schedules.proofs.Timeless.{stored-timeless, times_reach_times}
pub use Rattle.shm_schedules.proofs.Walking.{follower-reached, goes-length, goes-schedule, has-cases, made-by, test-first}
pub use Rattle.shm_schedules.specs.Alike.{is_change, is_void, looks}
pub use Rattle.shm_schedules.specs.Finding.{Finding}
pub use Rattle.shm_schedules.specs.Outcomes.{masked, masked_replies, outcome_of, replies_after}
pub use Rattle.shm_schedules.specs.Places.{place_by, place_of}
pub use Rattle.shm_schedules.specs.Same.{outcome_eq, same-outcomes}
pub use Rattle.shm_schedules.specs.Schedules.{IsOver, IsReached, IsSchedule, Leads, Run, after, fresh, goes, is_live, next, next_call, replies_to, schedule_of, walked}
pub use Rattle.shm_schedules.specs.Times.{timeless}
pub use Rattle.shm_schedules.specs.declared.search_error.SearchError.{SearchError}
pub use Rattle.shm_schedules.specs.declared.search_error.SearchError.TheVariants.{Bound, HostMemory}
pub use Rattle.shm_text.specs.Form.{CommandView}
pub use Rattle.shm_text.specs.Script.{ScriptView}
pub use Rattle.shm_text.specs.Variables.{no_values, values_after}
pub use Rattle.shm_text.specs.declared.script.Line.{Line}
pub use Rattle.shm_text.specs.declared.script.Line.TheVariants.{Command, Flush}
