-- The table of each piece, after a change of the pieces and of the tables.
use Rattle.shm_attach.proofs.Names.{HaveRoom, most_at, values_of, gets, slice_get-map, ◌≡◌, ◌≢◌, inl, inr, ℕ, zero, suc, ◌+◌, ◌<◌, ◌≤◌, ◌==◌, ◌&&◌, Bool, true, false, nat_lt, List, [], ◌∷◌, length, filter, get_or, slice_get, Option, Some, None, refl, ap, sym, subst, ◌∙◌, arith, common_steps, All, cases_Bool, cases_eq, slice_get_cases, All-append, All-cons, All-head, All-tail, All-filter, length-map, set_value_at, Slab, get, pieces_of, bare, bare_all, stored_inserted, stored_parts, stored_cut, Tables, runner_view, runners_view, pieces_at, seg_in, size_in, frame_in, TrueSlot, counted, stored_in, stored_at, HasTable, AllHaveTables, AreCountsExact, Piece, Runner, TableView, is_some, bare-get_or}
use Rattle.shm_base.specs.State as flat
use Rattle.shm_attach.proofs.Processes.{entry_there, entries_set}
use Rattle.shm_attach.proofs.Keeping.{own_counted, pieces_of-there}

-- THE PIECES OF A PROCESS, AS STORED

pub stored_at-value : (es : List (ℕ × Runner)) (i : ℕ) (w : Runner) → Some w ≡ slice_get (values_of es) i → stored_at es i ≡ w.space.pieces
stored_at-value es i w at = grind (arith, common_steps, entry_there es i w at)

pub stored_at-set : (es : List (ℕ × Runner)) (i : ℕ) (w v : Runner) → Some w ≡ slice_get (values_of es) i → stored_at (set_value_at es i v) i ≡ v.space.pieces
stored_at-set es i w v at =
    let t = entry_there es i w at in
    rw (entries_set es i (t.0, w) v t.1) (grind (arith, common_steps, gets, t.1))

pub stored_at-other : (es : List (ℕ × Runner)) (i j : ℕ) (v : Runner) → j ≢ i → stored_at (set_value_at es i v) j ≡ stored_at es j
stored_at-other [] i j v other = refl
stored_at-other (e ∷ es) zero zero v other = absurd (other refl)
stored_at-other (e ∷ es) zero (suc j) v other = refl
stored_at-other (e ∷ es) (suc i) zero v other = refl
stored_at-other (e ∷ es) (suc i) (suc j) v other = stored_at-other es i j v (λ same. other (ap suc same))

pub most_at-set : (es : List (ℕ × Runner)) (i : ℕ) (w v : Runner) → Some w ≡ slice_get (values_of es) i → v.space.most ≡ w.space.most → (j : ℕ) → most_at (set_value_at es i v) j ≡ most_at es j
most_at-set [] i w v at same j = refl
most_at-set (e ∷ es) zero w v at same zero = grind (arith, common_steps)
most_at-set (e ∷ es) zero w v at same (suc j) = refl
most_at-set (e ∷ es) (suc i) w v at same zero = refl
most_at-set (e ∷ es) (suc i) w v at same (suc j) = most_at-set es i w v at same j

-- the limit of pieces of a process, as stored
pub most_at-value : (es : List (ℕ × Runner)) (i : ℕ) (w : Runner) → Some w ≡ slice_get (values_of es) i → most_at es i ≡ w.space.most
most_at-value es i w at = grind (arith, common_steps, entry_there es i w at)

pub room_kept : (most : ℕ) (es fs : List (ℕ × Runner)) → HaveRoom most es → length fs ≡ length es → ((j : ℕ) → most_at fs j ≡ most_at es j) → HaveRoom most fs
room_kept most es fs room count same = record { bound = room.bound; each = λ i lt. same i ∙ room.each i (omega (arith, lt, count)) }

pub pieces_at-bare : (es : List (ℕ × Runner)) (i : ℕ) → pieces_at (runners_view es) i ≡ bare_all (stored_at es i)
pieces_at-bare es i = grind (arith, common_steps, slice_get-map)

-- the pieces of a process are shown as they are stored
pub pieces_at-stored : (es : List (ℕ × Runner)) (i : ℕ) (w : Runner) → Some w ≡ slice_get (values_of es) i → pieces_at (runners_view es) i ≡ bare_all w.space.pieces
pieces_at-stored es i w at = pieces_at-bare es i ∙ ap bare_all (stored_at-value es i w at)

pub pieces_at-entry : (es : List (ℕ × Runner)) (i : ℕ) (e : ℕ × Runner) → slice_get es i ≡ Some e → pieces_at (runners_view es) i ≡ bare_all e.1.space.pieces
pieces_at-entry es i e at = pieces_at-bare es i ∙ ap (λ o. bare_all (stored_in o)) at

stored_at-within : (es : List (ℕ × Runner)) (i k : ℕ) → k < length (stored_at es i) → i < length es
stored_at-within es i k lt = grind (arith, common_steps, slice_get_cases)

-- ONE PIECE

abbrev seg_is : Option ℕ → ℕ → Bool
seg_is None seg = false
seg_is (Some own) seg = own == seg

-- whether a piece has its table
abbrev has_table : Slab TableView → Piece → Bool
has_table t p = seg_is (seg_in (get t p.key)) p.seg && nat_lt (p.first_page + p.pages) (size_in (get t p.key) + 1)

tables-passes : (t : Slab TableView) (p : Piece) → HasTable t p → has_table t p ≡ true
tables-passes t p own = grind (arith, common_steps)

tables-passed : (t : Slab TableView) (p : Piece) → has_table t p ≡ true → HasTable t p
tables-passed t p passes = grind (arith, common_steps)

-- a piece that is among those that have their tables
pub table-of : (t : Slab TableView) (ps : List Piece) (p : Piece) → All (HasTable t) ps → ((test : Piece → Bool) → All (λ (q : Piece). test q ≡ true) ps → test p ≡ true) → HasTable t p
table-of t ps p tables among = tables-passed t p (among (has_table t) (λ k d lt. tables-passes t (get_or ps k d) (tables k d lt)))

held : (o : Option TableView) (seg : ℕ) → seg_in o ≡ Some seg → is_some o ≡ true
held (Some e) seg is = refl
held None seg is = grind arith

pub key-held : (t : Slab TableView) (p : Piece) → HasTable t p → is_some (get t p.key) ≡ true
key-held t p has = held (get t p.key) p.seg has.seg

-- a frame that is read by a key is true
pub frame-true : (at : ℕ → ℕ → Option ℕ) (o : Option TableView) (seg page : ℕ) → seg_in o ≡ Some seg → TrueSlot at o → page < size_in o → frame_in o page ≡ at seg page
frame-true at o seg page own tr lt = grind arith

-- ALL PIECES OF ONE PROCESS

module _ (t : Slab TableView) where
  pub tables-inserted : (p : Piece) (ps : List Piece) → HasTable t p → All (HasTable t) ps → All (HasTable t) (stored_inserted p ps)
  tables-inserted p [] own all = All-cons (HasTable t) p [] own all
  tables-inserted p (q ∷ qs) own all =
      elim (cases_Bool (nat_lt p.base q.base)) [
        | inl h ↦ rw h (All-cons (HasTable t) p (q ∷ qs) own all)
        | inr h ↦ rw h (All-cons (HasTable t) q (stored_inserted p qs) (All-head (HasTable t) q qs all) (tables-inserted p qs own (All-tail (HasTable t) q qs all)))
      ]

  pub tables-filter : (f : Piece → Bool) (ps : List Piece) → All (HasTable t) ps → All (HasTable t) (filter f ps)
  tables-filter f ps all = All-filter f (HasTable t) ps all

  tables-parts : (from to : ℕ) (p : Piece) → HasTable t p → All (HasTable t) (stored_parts from to p)
  tables-parts from to p own = grind (arith, common_steps)

  pub tables-cut : (from to : ℕ) (ps : List Piece) → All (HasTable t) ps → All (HasTable t) (stored_cut from to ps)
  tables-cut from to [] all = all
  tables-cut from to (p ∷ ps) all =
      All-append (HasTable t) (stored_parts from to p) (stored_cut from to ps)
      (tables-parts from to p (All-head (HasTable t) p ps all)) (tables-cut from to ps (All-tail (HasTable t) p ps all))

-- a process that keeps its pieces
pub same-set : (es : List (ℕ × Runner)) (i : ℕ) (w : Runner) → Some w ≡ slice_get (values_of es) i → set_value_at es i w ≡ es
same-set [] i w at = refl
same-set (e ∷ es) zero w at = grind (arith, common_steps)
same-set (e ∷ es) (suc i) w at = ap (λ (fs : List (ℕ × Runner)). e ∷ fs) (same-set es i w at)

-- ALL PIECES

-- a piece is counted
counts-piece : (extra : ℕ → ℕ) (es : List (ℕ × Runner)) (u : Tables) → AreCountsExact extra (runners_view es) u → (i k : ℕ) (d : Piece) → k < length (stored_at es i)
    → 0 < counted u (get_or (stored_at es i) k d).seg
counts-piece extra es u exact i k d lt =
    let ps = stored_at es i in
    let own : pieces_at (runners_view es) i ≡ bare_all ps = pieces_at-bare es i in
    let within : i < length (runners_view es) = omega (arith, stored_at-within es i k lt, length-map es runner_view) in
    let long : k < length (bare_all ps) = omega (arith, lt, length-map ps bare) in
    let e = bare d in
    let some : 1 ≤ pieces_of (get_or (bare_all ps) k e).seg (bare_all ps) = pieces_of-there k (bare_all ps) e long in
    let same : bare (get_or ps k d) ≡ get_or (bare_all ps) k e = bare-get_or ps k d e lt in
    let here : 1 ≤ pieces_of (get_or ps k d).seg (bare_all ps) = subst (λ (q : flat.Piece). 1 ≤ pieces_of q.seg (bare_all ps)) (sym same) some in
    let all : pieces_of (get_or ps k d).seg (bare_all ps) ≤ counted u (get_or ps k d).seg = rw own at (own_counted extra (runners_view es) u i exact within (get_or ps k d).seg) in
    omega (arith, here, all)

-- the remaining tables are those of the existing pieces
pub tables-all : (extra : ℕ → ℕ) (es : List (ℕ × Runner)) (t : Slab TableView) (u : Tables) → AreCountsExact extra (runners_view es) u → AllHaveTables es t
    → ((p : Piece) → HasTable t p → 0 < counted u p.seg → HasTable u.slab p) → AllHaveTables es u.slab
tables-all extra es t u exact all step i k d lt = step (get_or (stored_at es i) k d) (all i k d lt) (counts-piece extra es u exact i k d lt)

-- one process has other pieces
pub tables-changed : (es fs : List (ℕ × Runner)) (t : Slab TableView) (i : ℕ) → AllHaveTables es t → All (HasTable t) (stored_at fs i)
    → ((j : ℕ) → j ≢ i → stored_at fs j ≡ stored_at es j) → AllHaveTables fs t
tables-changed es fs t i all own others j = elim (cases_eq j i) [ inl same ↦ rw same own | inr other ↦ rw (others j other) (all j) ]
