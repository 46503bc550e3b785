-- Which segments may be left without pieces when pieces go.
use Rattle.shm_life.proofs.Names.{◌≡◌, ℕ, ◌-◌, ◌≤◌, true, false, not, List, [], ◌∷◌, length, filter, Some, refl, arith, Piece, Entry, Runner, attach_count, meets, cut, cut_segments, inserted, pieces_of, is_named, without_named, one_more, shorter_filter, pieces_of-inserted, pieces_of-cut_met, pieces_of-without, orphan_in, id_in, identifier_at, is_among, OrphansAmong, sum-set, nat_tests, map, slice_get, slice_set, Option, ◌<◌, get_or-le-sum_by, get_or_from_slice_get, slice_get_within}

-- other segments keep their pieces
abbrev pub KeepsPieces : List ℕ → List Runner → List Runner → Type 0
KeepsPieces lost rs after = (id : ℕ) → is_among lost id ≡ false → attach_count rs id ≤ attach_count after id

orphan-more : (rs after : List Runner) (i : ℕ) (o : Option Entry) → attach_count rs (id_in i o) ≤ attach_count after (id_in i o) → orphan_in i after o ≡ true → orphan_in i rs o ≡ true
orphan-more rs after i o le h = grind (arith, nat_tests)

-- so only segments that lost pieces are left without
pub orphans-among : (lost : List ℕ) (rs after : List Runner) (t : List Entry) → OrphansAmong [] rs t → KeepsPieces lost rs after → OrphansAmong lost after t
orphans-among lost rs after t none keeps = λ i h. grind (arith, nat_tests, none i, orphan-more rs after i (slice_get t i), keeps (identifier_at t i), h)

orphan-unnamed : (rs after : List Runner) (i : ℕ) (o : Option Entry) → (0 < attach_count rs (id_in i o) → 0 < attach_count after (id_in i o)) → orphan_in i after o ≡ true → orphan_in i rs o ≡ true
orphan-unnamed rs after i o named h = grind (arith, nat_tests, named)

-- where each segment that has a piece keeps one, none is left without
pub orphans-named : (rs after : List Runner) (t : List Entry) → OrphansAmong [] rs t → ((id : ℕ) → 0 < attach_count rs id → 0 < attach_count after id) → OrphansAmong [] after t
orphans-named rs after t none named = λ i h. none i (orphan-unnamed rs after i (slice_get t i) (named (identifier_at t i)) h)

-- ONE PROCESS CHANGED

count-set : (rs : List Runner) (i : ℕ) (r x : Runner) (id : ℕ) → slice_get rs i ≡ Some x → pieces_of id x.pieces ≤ pieces_of id r.pieces → attach_count rs id ≤ attach_count (slice_set rs i r) id
count-set rs i r x id there le =
    let a = sum-set (λ (y : Runner). pieces_of id y.pieces) rs i r x there in omega (arith, a, le)

-- a process's pieces are counted
pub had-count : (rs : List Runner) (i : ℕ) (x : Runner) (id : ℕ) → slice_get rs i ≡ Some x → pieces_of id x.pieces ≤ attach_count rs id
had-count rs i x id there = rw (← get_or_from_slice_get rs i x x there) (get_or-le-sum_by (λ (y : Runner). pieces_of id y.pieces) rs i x (slice_get_within rs i x there))

-- a process that keeps a piece of each segment that it had one of
pub count-named : (rs : List Runner) (i : ℕ) (r x : Runner) → slice_get rs i ≡ Some x → ((id : ℕ) → 0 < pieces_of id x.pieces → 0 < pieces_of id r.pieces)
    → (id : ℕ) → 0 < attach_count rs id → 0 < attach_count (slice_set rs i r) id
count-named rs i r x there named id some =
    let a = sum-set (λ (y : Runner). pieces_of id y.pieces) rs i r x there in
    let b = named id in
    let had = had-count rs i x id there in
    grind (arith, a, b, had, some)

pub keeps-set : (lost : List ℕ) (rs : List Runner) (i : ℕ) (r x : Runner) → slice_get rs i ≡ Some x
    → ((id : ℕ) → is_among lost id ≡ false → pieces_of id x.pieces ≤ pieces_of id r.pieces) → KeepsPieces lost rs (slice_set rs i r)
keeps-set lost rs i r x there le = λ id other. count-set rs i r x id there (le id other)

-- pieces of segments that are not among these are none of these pieces
pub not_among-map : (id : ℕ) (ps : List Piece) → is_among (map (λ (p : Piece). p.seg) ps) id ≡ false → pieces_of id ps ≡ 0
not_among-map id [] h = refl
not_among-map id (p ∷ ps) h = grind (arith, nat_tests, one_more id p ps, not_among-map id ps)

-- all pieces go
pub keeps-all : (ps : List Piece) (id : ℕ) → is_among (map (λ (p : Piece). p.seg) ps) id ≡ false → pieces_of id ps ≤ pieces_of id []
keeps-all ps id other = let z = not_among-map id ps other in omega (arith, z)

-- a range is cut
pub keeps-rest : (from to : ℕ) (ps : List Piece) (id : ℕ) → is_among (cut_segments from to ps) id ≡ false → pieces_of id ps ≤ pieces_of id (cut from to ps)
keeps-rest from to ps id other = grind (arith, not_among-map id (filter (meets from to) ps) other, pieces_of-cut_met id from to ps)

-- a range is cut, and a piece comes
pub keeps-cut : (from to : ℕ) (p : Piece) (ps : List Piece) (id : ℕ) → is_among (cut_segments from to ps) id ≡ false → pieces_of id ps ≤ pieces_of id (inserted p (cut from to ps))
keeps-cut from to p ps id other =
    grind (arith, not_among-map id (filter (meets from to) ps) other, pieces_of-cut_met id from to ps, pieces_of-inserted id p (cut from to ps))

-- the pieces of one segment with one origin go
pub keeps-without : (addr seg : ℕ) (ps : List Piece) (id : ℕ) → is_among (seg ∷ []) id ≡ false → pieces_of id ps ≤ pieces_of id (without_named addr seg ps)
keeps-without addr seg ps id other =
    let le : length (without_named addr seg ps) ≤ length ps = shorter_filter (λ (q : Piece). not (is_named addr seg q)) ps in
    let a = pieces_of-without id addr seg ps (length ps - length (without_named addr seg ps)) (omega (arith, le)) in
    grind (arith, nat_tests, a, other)
