-- The names that the proofs use: those of the crates below, and of the specs of this crate.
pub use Rattle.std.proofs.Common.{◌≡◌, ◌⊎◌, inl, inr, ℕ, zero, suc, ◌+◌, ◌-◌, ◌<◌, ◌≤◌, true, false, nat_lt, List, [], ◌∷◌, ◌++◌, length, get_or, take, drop, refl, ap, ◌∙◌, arith, append_assoc, append-nil, length-take, length-drop, ◌*◌, ◌/◌, ◌%◌, Bool, filter, insert, map, find, max, MatchOption, drop-cons, add-one, sym, cond, Some, option_map, ne_eqb, nat_le, if◌then◌else◌, Option, None, IfSome, leb, leb-true, rules, not, eq-eqb, length-set, set, subst}
pub use Rattle.std.proofs.lemmas.Grind.{common_steps}
pub use Rattle.std.proofs.lemmas.Bool.Decides.{nat_tests}
pub use Rattle.std.specs.List.{splice, flat_map}
pub use Rattle.std.proofs.lemmas.Bool.{lt-ltb, le-ltb, cases_lt, cases_eq, and_right, cases_Bool, or_parts, both_ways, le-leb, lt-leb, false_from_ne_true, leb-false}
pub use Rattle.std.proofs.lemmas.List.{get_or_default, take-append-drop, length-map, take_all, drop-set-lt, get_or-map, take_more_set}
pub use Rattle.shm_base.specs.Access.{end_of, place, place_by, covers}
pub use Rattle.shm_base.specs.Space.{meets, occupied, inserted, cut, parts, part_below, part_above, without_named, lowest_address, first_chosen, end_address, is_gap, choose, covering, has_origin, origin_of, choose_beside, is_free_gap, is_named, is_reserved, least_where, lesser, ranges_of, rest_segments}
pub use Rattle.shm_areas.specs.declared.piece.Piece.{Piece, Piece as Stored}
pub use Rattle.shm_areas.specs.Arranged.{bare, bare_all, Arranged, IsFit, AreWithin, SpaceView}
pub use Rattle.shm_areas.specs.Edit.{stored_below, stored_above, stored_cut, stored_inserted, stored_parts, stored_without, left_by, stored_named, taken_between}
pub use Rattle.shm_areas.specs.Met.{met, IsPieceRange, IsOriginRange}
pub use Rattle.shm_areas.specs.Gap.{gap_from, IsLeastGap, HasNoGap, IsFilled}
pub use Rattle.shm_areas.specs.FreeGap.{AreRanges, HasNoFreeGap, IsLeastFreeGap, free_from, free_from_ends, lesser_of, unless_reserved}
pub use Rattle.std.proofs.lemmas.Option.{none-some, get_or_from_slice_get}
pub use Rattle.std.proofs.lemmas.List.Concat.{flat_map-cons}
pub use Rattle.std.specs.Prelude.{All, slice_range, vec_capacity, ⊤, is_some, min, ◌&&◌, ◌==◌}
pub use Rattle.std.proofs.lemmas.List.Elements.{All-append, All-cons, All-filter, All-head, All-nil, All-tail, All-weaker, filter_passes}
