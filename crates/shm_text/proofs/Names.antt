-- The names that the proofs use: those of the crates below, and of the specs of this crate.
pub use Rattle.std.proofs.Common.{Bool, List, None, Option, Some, [], ap, append-nil, append_assoc, arith, cond, drop, eqb, false, get_or, inl, inr, length, length-append, length-drop, ltb, min, pow-add, refl, rules, subst, suc, sym, take, true, zero, ℕ, ◌*◌, ◌++◌, ◌+◌, ◌-◌, ◌<◌, ◌^◌, ◌∙◌, ◌∷◌, ◌≡◌, ◌≤◌}
pub use Rattle.std.proofs.Math.Nat.{mul-le-mul}
pub use Rattle.std.proofs.Math.Numerals.{add-one}
pub use Rattle.std.proofs.Math.Pow.{pow_mono}
pub use Rattle.std.proofs.Math.Seq.{drop-cons, drop-length}
pub use Rattle.std.proofs.lemmas.Bool.{cases_Bool, le-ltb}
pub use Rattle.std.proofs.lemmas.Bool.Decides.{nat_tests}
pub use Rattle.std.proofs.lemmas.Grind.{common_steps}
pub use Rattle.std.proofs.lemmas.Int.Digits.{digits_value_more}
pub use Rattle.std.proofs.lemmas.Iterator.Consumers.{YieldsList-from_filter, count_from_yields_List}
pub use Rattle.std.proofs.lemmas.Iterator.Splits.{YieldsList-from_slice_split}
pub use Rattle.std.proofs.lemmas.List.{drop-drop, drop-take, get_or-drop, get_or-take, length-map, length-take, length-take-le, take-append-drop, take-take, take_all, take_rest}
pub use Rattle.std.proofs.lemmas.List.Elements.{All-more}
pub use Rattle.std.proofs.lemmas.List.Folds.{list_all_more}
pub use Rattle.std.proofs.lemmas.List.Splits.{length-slice_split, slice_split_at, slice_split_first, slice_split_none}
pub use Rattle.std.proofs.lemmas.List.Sums.{count_by-le-length, length-filter, list_all-from_AllPass}
pub use Rattle.std.proofs.lemmas.Option.{cond_some}
pub use Rattle.std.specs.Char.{digit_value, is_digit}
pub use Rattle.std.specs.List.{list_all, onto_first, position_or_len, slice_split}
pub use Rattle.std.specs.Prelude.{All, IsOk, codes, filter, if◌then◌else◌, is_some, nat_lt, not, position, ◌&&◌, ◌==◌, ◌||◌}
pub use Rattle.std.specs.Str.{bytes_eq}
pub use Rattle.std.specs.Str.Parse.{digits_value}
pub use Rattle.shm_base.specs.Bounds.{Bounds}
pub use Rattle.shm_text.specs.Calls.{call_by, call_with}
pub use Rattle.shm_text.specs.Form.{LineCall}
pub use Rattle.shm_text.specs.Number.{number_from}
pub use Rattle.shm_text.specs.Operand.{names_of, required_number, ◌>>=◌}
pub use Rattle.shm_text.specs.Reading.{SeenView, command, command_of, with_room, declared_pid, word_at_is, is_command, is_skipped, is_wordless, items_of, limits_after, line_item, lines_in, nothing, processes_in, script_by, script_from, seen_next, taker, with_item}
pub use Rattle.shm_text.specs.Script.{ScriptView}
pub use Rattle.shm_text.specs.Words.{first_line, is_allowed, is_space, line_end, lines_of, with_word, without_rest, word_at, words_of}
pub use Rattle.shm_text.specs.declared.calls.Verb.{Verb}
pub use Rattle.shm_text.specs.declared.fault.FaultKind.{FaultKind}
pub use Rattle.shm_text.specs.declared.fault.FaultKind.TheVariants.{TooMany}
pub use Rattle.shm_text.specs.declared.fault.ScriptFault.{ScriptFault}
pub use Rattle.shm_text.specs.declared.number.Number.{Number}
pub use Rattle.shm_text.specs.declared.number.Number.TheVariants.{Fits}
pub use Rattle.shm_text.specs.declared.script.Item.{Item}
