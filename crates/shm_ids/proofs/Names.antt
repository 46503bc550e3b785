-- The names that the proofs use: those of the crates below, and of the specs of this crate.
pub use Rattle.std.proofs.Common.{nat_lt, true, false, ◌≡◌, ℕ, ◌+◌, ◌<◌, ◌≤◌, List, length, map, option_map, Some, None, is_some, arith, ◌≢◌, [], ◌∷◌, ◌++◌, set, zero, suc, ◌%◌, ℤ, pos, negsuc, slice_get, slice_set, Option, IsOk, refl, sym, ap, ◌∙◌, inl, inr, eq-eqb, ne_eqb, ◌⊎◌, drop, if◌then◌else◌, rules, nat_eq, not, ◌&&◌, subst, ◌/◌, Ok, true≢false, length-set, to_z, of_z, w32}
pub use Rattle.std.proofs.lemmas.Grind.{common_steps}
pub use Rattle.std.proofs.lemmas.List.Sums.{count_by-le-length, sum_by-cons}
pub use Rattle.shm_ids.specs.declared.table.Entry.{Entry}
pub use Rattle.shm_ids.specs.declared.table.Row.{Row}
pub use Rattle.shm_ids.specs.Table.{entry_at, with_row, with_key, with_value, without_row, row_count, unused, filled, blank_entry, free_index, blank_segment, IsFree, identifier, index_of, row_key, index_found, find_key, looked, look, look_entry, key_at, look_row, id_at}
pub use Rattle.std.proofs.lemmas.List.{get_or-set_same, get_or-set_other, get_or_past, set-set, drop_all, drop_more, get_or_read}
pub use Rattle.std.specs.Option.{unwrap_or}
pub use Rattle.std.proofs.lemmas.Option.{none-some, slice_get-map, unwrap_or-slice_get}
pub use Rattle.std.proofs.lemmas.Bool.{cases_eq, cases_lt}
pub use Rattle.shm_ids.specs.Flat.{flat_entry, flat_from, flat_table, flat_answer, flat_look, flat_found, ShowsKeys, natural_of}
pub use Rattle.shm_ids.specs.Sound.{HaveIdentifiers, AreIndexesKnown, Keyed, is_open, TakenAs, rows_in, Sound}
pub use Rattle.shm_base.specs.Numbers.{NumbersView, IsLeastNumber, WithTaken, is_taken}
pub use Rattle.std.proofs.lemmas.Bool.Decides.{nat_tests}
pub use Rattle.indexmap.specs.IndexMap.{IndexMap, get}
pub use Rattle.shm_ids.specs.Rows.{rows_from, rows_row}
