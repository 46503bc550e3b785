-- The names that the proofs use: those of the crates below, and of the specs of this crate.
pub use Rattle.std.proofs.Common.{All, IsPermutation, List, Some, [], ap, arith, drop, flat_map, inl, inr, length, length-append, map, refl, rules, slice_index_or, subst, sym, take, ℕ, ◌++◌, ◌+◌, ◌-◌, ◌<◌, ◌↔◌, ◌∙◌, ◌∷◌, ◌≡◌, ◌≤◌}
pub use Rattle.std.proofs.lemmas.Bool.{cases_Bool}
pub use Rattle.std.proofs.lemmas.Grind.{common_steps}
pub use Rattle.std.proofs.lemmas.List.{get_or_append_left, length-map, map-append}
pub use Rattle.std.proofs.lemmas.List.Elements.{All-append, All-contains, All-push, Contains-append_left, Contains-append_right, Contains-get_or, Contains-push, Contains-push_cases, filter-append}
pub use Rattle.std.proofs.lemmas.List.Quantifiers.{all_pairs_push}
pub use Rattle.std.proofs.lemmas.List.Sorted.{All-permutation, Contains-permutation, IsPermutation-refl, IsPermutation-swap, IsPermutation-trans}
pub use Rattle.std.proofs.lemmas.Map.Made.{is_member-Decides}
pub use Rattle.std.proofs.lemmas.Option.{none-some}
pub use Rattle.std.specs.List.{AllPairs, list_any}
pub use Rattle.std.specs.Prelude.{Bool, Contains, Err, IfErr, IsErrAnd, IsTrue, None, Ok, Option, Result, cond, false, if◌then◌else◌, option_map, suc, true, ◌&&◌, ◌==◌, ◌⊎◌}
pub use Rattle.indexmap.specs.IndexSet.{insert_key}
pub use Rattle.rand_core.specs.Stream.{Stream}
pub use Rattle.shm_base.specs.Calls.{ProcessCall}
pub use Rattle.shm_base.specs.History.{is_refusal, own_part}
pub use Rattle.shm_base.specs.Processes.{has_pid}
pub use Rattle.shm_base.specs.State.{Machine}
pub use Rattle.shm_base.specs.Step.{step}
pub use Rattle.shm_base.specs.declared.call.Event.{Event}
pub use Rattle.shm_base.specs.declared.call.Process.{Process}
pub use Rattle.shm_base.specs.declared.call.Reply.{Reply}
pub use Rattle.shm_judge.specs.Judge.{AreMore, IsBeginning, IsDoubt, IsExplained, IsKeyOfBeginning, IsStuck, IsUnexplained, newest, stuck_at}
pub use Rattle.shm_judge.specs.Logs.{AllBegin, AllFill, Answer, Begins, Entry, Fills, Fits, FitsAs}
pub use Rattle.shm_judge.specs.Reading.{IsSaid, all_before, declared_as, entries_from, entries_of, joined, line_says, lines_in, own_answers, with_first}
pub use Rattle.shm_judge.specs.Refusals.{IsRefusedLog}
pub use Rattle.shm_judge.specs.Report.{answers_text, possible_text}
pub use Rattle.shm_judge.specs.Sampling.{AreSamples, IsDrawn, IsPutSample, IsSample, LeadsDrawn, below, one_turn, turns, turns_of}
pub use Rattle.shm_judge.specs.Searching.{AreExplored, HasRun, IsAdmitted, IsExpanded, IsExplored, IsLonger, IsNew, IsNode, IsOpen, IsTooMany, one_successor, successors}
pub use Rattle.shm_judge.specs.Stuck.{Stuck}
pub use Rattle.shm_judge.specs.declared.fault.LogFault.{LogFault}
pub use Rattle.shm_judge.specs.declared.fault.LogRefused.{LogRefused}
pub use Rattle.shm_judge.specs.declared.sampling.Turn.{Turn}
pub use Rattle.shm_judge.specs.declared.verdict.Verdict.{Verdict}
pub use Rattle.shm_outcomes.proofs.Adding.{if-bound}
pub use Rattle.shm_outcomes.proofs.Equivalence.{AreEquivalent, equivalent-goes, equivalent-over, successor-key}
pub use Rattle.shm_outcomes.proofs.Same.{key_eq, same-key}
pub use Rattle.shm_outcomes.specs.Keys.{AreOther, Key, key_of}
pub use Rattle.shm_outcomes.specs.Nodes.{Node, key_at, root, successor}
pub use Rattle.shm_print.specs.Text.{events_text}
pub use Rattle.shm_schedules.proofs.Going.{leads-grow, replies-at}
pub use Rattle.shm_schedules.proofs.Walking.{follower-reached, goes-schedule, has-cases, made-by, none-over, over-none, test-first}
pub use Rattle.shm_schedules.specs.Cuts.{is_any, past, until}
pub use Rattle.shm_schedules.specs.Outcomes.{masked, masked_replies, masked_time, outcome_of}
pub use Rattle.shm_schedules.specs.Schedules.{IsOver, IsReached, Leads, Run, after, followers, fresh, goes, is_live, next, next_call, replies_to, reply_of, schedule_of}
pub use Rattle.shm_schedules.specs.Text.{line_text, reply_words, time_text}
pub use Rattle.shm_schedules.specs.declared.search_error.SearchError.{SearchError}
pub use Rattle.shm_schedules.specs.declared.search_error.SearchError.TheVariants.{HostMemory}
pub use Rattle.shm_text.specs.Script.{ScriptView}
pub use Rattle.shm_text.specs.Variables.{no_values, values_after}
pub use Rattle.shm_text.specs.declared.script.Line.{Line}
pub use Rattle.shm_text.specs.declared.script.Line.TheVariants.{Command, Flush}
