-- What an attach, a cut and a detach change in the stored pieces and their keys.
use Rattle.std.specs.Prelude.{◌≡◌, ◌≤◌, length, option_to_list, ℕ, ◌+◌, ◌-◌, ◌/◌, Bool, not, nat_lt, if◌then◌else◌, List, [], ◌∷◌, ◌++◌, filter, take, drop}
use Rattle.std.specs.List.{flat_map, splice}
use Rattle.shm_base.specs.Access.{end_of}
use Rattle.shm_base.specs.Space.{meets, is_named}
use Rattle.shm_areas.specs.declared.piece.Piece.{Piece}
use Rattle.shm_areas.specs.declared.cut.Cut.{Cut}
use Rattle.shm_areas.specs.Arranged.{bare}
use Rattle.shm_base.specs.declared.paging.TheConstants.{PAGE_SIZE}

-- the pieces with one more, in order of their bases
abbrev pub stored_inserted : Piece → List Piece → List Piece
stored_inserted p [] = p ∷ []
stored_inserted p (q ∷ qs) = if nat_lt p.base q.base then p ∷ q ∷ qs else q ∷ stored_inserted p qs

-- the part below an address keeps the key
abbrev pub stored_below : ℕ → Piece → List Piece
stored_below from p = if nat_lt p.base from then record p { pages = (from - p.base) / PAGE_SIZE } ∷ [] else []

-- the part above an address keeps the key too
abbrev pub stored_above : ℕ → Piece → List Piece
stored_above to p =
    if nat_lt to (end_of (bare p))
    then
    record p {
      base = to;
      first_page = p.first_page + (to - p.base) / PAGE_SIZE;
      pages = (end_of (bare p) - to) / PAGE_SIZE;
    } ∷ []
    else []

abbrev pub stored_parts : ℕ → ℕ → Piece → List Piece
stored_parts from to p = if meets from to (bare p) then stored_below from p ++ stored_above to p else p ∷ []

-- the pieces without the range
abbrev pub stored_cut : ℕ → ℕ → List Piece → List Piece
stored_cut from to ps = flat_map (stored_parts from to) ps

abbrev pub stored_named : ℕ → ℕ → Piece → Bool
stored_named addr seg p = is_named addr seg (bare p)

abbrev pub stored_without : ℕ → ℕ → List Piece → List Piece
stored_without addr seg ps = filter (λ p. not (stored_named addr seg p)) ps

-- the pieces, without those between two places that belong to the segment and have the origin
abbrev pub taken_between : ℕ → ℕ → List Piece → ℕ → ℕ → List Piece
taken_between addr seg ps first last = take first ps ++ (stored_without addr seg (take (last - first) (drop first ps)) ++ drop last ps)

-- the pieces, where a cut's parts replace the run that it met
abbrev pub left_by : List Piece → Cut → List Piece
left_by ps c = splice ps c.first c.last (option_to_list c.below ++ option_to_list c.above)

-- a cut leaves these pieces
pub record IsCut (ps : List Piece) (c : Cut) (left : List Piece) : Type 0 where
  pub order : c.first ≤ c.last
  pub bound : c.last ≤ length ps
  pub leaves : left_by ps c ≡ left
