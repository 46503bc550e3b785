-- One process's pieces change, and the counts change with them.
use Rattle.shm_attach.proofs.Names.{map-set, slice_get-map, set, slice_get_cases, ◌≡◌, ℕ, zero, suc, ◌+◌, ◌-◌, ◌<◌, ◌≤◌, Bool, true, ◌==◌, List, [], ◌∷◌, length, map, get_or, Some, slice_get, filter, refl, ap, arith, ◌++◌, cond, drop, drop-cons, add-one, common_steps, filter_passes, sum_by-cons, sum_by-set, sum_by-append, length-filter, count_by-le-length, slice_get-get_or, set_value_at, values_of, pieces_of, meets, parts, cut, cut_segments, inserted, without_named, attach_count, bare, bare_all, met, with_pieces_at, with_life_at, some_if, life_view, runners_view, pieces_at, Stored, Runner, Life, inl, inr, cases_Bool}
use Rattle.shm_base.specs.State as flat

-- the value beyond the end of a list of processes
abbrev pub first_runner : flat.Runner
first_runner = record { pid = 0; life = flat.Unborn; pieces = [] }

pub length-inserted : (p : flat.Piece) (ps : List flat.Piece) → length (inserted p ps) ≡ length ps + 1
length-inserted p [] = refl
length-inserted p (q ∷ qs) = let rest = length-inserted p qs in grind (arith, common_steps)

pub one_more : (id : ℕ) (p : flat.Piece) (ps : List flat.Piece) → pieces_of id (p ∷ ps) ≡ pieces_of id ps + some_if id p.seg 1
one_more id p ps = let sum = sum_by-cons (λ (q : flat.Piece). cond (q.seg == id) 1 0) p ps in omega (arith, sum)

pub pieces_of-inserted : (id : ℕ) (p : flat.Piece) (ps : List flat.Piece) → pieces_of id (inserted p ps) ≡ pieces_of id ps + some_if id p.seg 1
pieces_of-inserted id p [] = one_more id p []
pieces_of-inserted id p (q ∷ qs) = grind (arith, common_steps, one_more, pieces_of-inserted id p qs)

-- the count follows the pieces of the one process that changes
pub attach_count-changed : (id i : ℕ) (f : List flat.Piece → List flat.Piece) (rs : List flat.Runner) → i < length rs
    → attach_count (with_pieces_at rs i f) id + pieces_of id (pieces_at rs i) ≡ attach_count rs id + pieces_of id (f (pieces_at rs i))
attach_count-changed id i f rs lt =
    let r = get_or rs i first_runner in
    let at : slice_get rs i ≡ Some r = slice_get-get_or rs i first_runner lt in
    let after = sum_by-set (λ (x : flat.Runner). pieces_of id x.pieces) rs i (record r { pieces = f r.pieces }) first_runner lt in
    rw at after

-- setting the value at an index sets the entry there
pub entries_set : (es : List (ℕ × Runner)) (i : ℕ) (e : ℕ × Runner) (v : Runner) → slice_get es i ≡ Some e → set_value_at es i v ≡ set es i (e.0, v)
entries_set [] i e v at = refl
entries_set (x ∷ es) zero e v at = grind arith
entries_set (x ∷ es) (suc i) e v at = ap (λ (xs : List (ℕ × Runner)). x ∷ xs) (entries_set es i e v at)

pub entry_there : (es : List (ℕ × Runner)) (i : ℕ) (w : Runner) → Some w ≡ slice_get (values_of es) i → (k : ℕ) × (slice_get es i ≡ Some (k, w))
entry_there es i w at =
    let there : Some w ≡ slice_get (map (λ (e : ℕ × Runner). e.1) es) i = at in
    grind (arith, common_steps, slice_get-map, slice_get_cases)

pub runners_set : (f : List flat.Piece → List flat.Piece) (es : List (ℕ × Runner)) (i : ℕ) (w v : Runner) → Some w ≡ slice_get (values_of es) i
    → v.life ≡ w.life → bare_all v.space.pieces ≡ f (bare_all w.space.pieces) → runners_view (set_value_at es i v) ≡ with_pieces_at (runners_view es) i f
runners_set f es i w v at life space =
    let t = entry_there es i w at in
    rw (entries_set es i (t.0, w) v t.1) (grind (arith, common_steps, map-set, slice_get-map, t.1, life, space))

pub shorter_filter : {X : Type 0} (p : X → Bool) (xs : List X) → length (filter p xs) ≤ length xs
shorter_filter p xs = rw (length-filter p xs) (count_by-le-length p xs)

pub pieces_of-without : (id addr seg : ℕ) (ps : List flat.Piece) (n : ℕ) → length (without_named addr seg ps) + n ≡ length ps
    → pieces_of id (without_named addr seg ps) + some_if id seg n ≡ pieces_of id ps
pieces_of-without id addr seg [] n gone = grind (arith, common_steps)
pieces_of-without id addr seg (p ∷ ps) n gone =
    grind (arith, common_steps, shorter_filter, one_more, pieces_of-without id addr seg ps n, pieces_of-without id addr seg ps (n - 1))

-- WHAT A CUT LEAVES OF A COUNT

pub pieces_of-append : (id : ℕ) (xs ys : List flat.Piece) → pieces_of id (xs ++ ys) ≡ pieces_of id xs + pieces_of id ys
pieces_of-append id xs ys = sum_by-append (λ (p : flat.Piece). cond (p.seg == id) 1 0) xs ys

-- all parts of a piece name its segment
pub pieces_of-parts : (id from to : ℕ) (p : flat.Piece) → pieces_of id (parts from to p) ≡ some_if id p.seg (length (parts from to p))
pieces_of-parts id from to p = grind arith

pub pieces_of-cut_cons : (id from to : ℕ) (p : flat.Piece) (ps : List flat.Piece)
    → pieces_of id (cut from to (p ∷ ps)) ≡ some_if id p.seg (length (parts from to p)) + pieces_of id (cut from to ps)
pieces_of-cut_cons id from to p ps = grind (arith, common_steps, pieces_of-append, pieces_of-parts)

pub few_parts : (from to : ℕ) (p : flat.Piece) → length (parts from to p) ≤ 2
few_parts from to p = grind arith

pub some_if-le : (id seg n : ℕ) → some_if id seg n ≤ n
some_if-le id seg n = grind arith

-- a segment with pieces after a change had some before
pub was_counted : (id seg a b n m : ℕ) → (seg ≡ id → 0 < a) → b + some_if id seg n ≡ a + some_if id seg m → 0 < b → 0 < a
was_counted id seg a b n m own change some = grind (arith, common_steps)

-- the pieces that are not met are unchanged
pub pieces_of-cut_met : (id from to : ℕ) (ps : List flat.Piece)
    → pieces_of id ps + pieces_of id (cut from to (filter (meets from to) ps)) ≡ pieces_of id (cut from to ps) + pieces_of id (filter (meets from to) ps)
pieces_of-cut_met id from to [] = refl
pieces_of-cut_met id from to (p ∷ ps) =
    let rest = pieces_of-cut_met id from to ps in
    let own = one_more id p ps in
    let all = pieces_of-append id (parts from to p) (cut from to ps) in
    let some = pieces_of-append id (parts from to p) (cut from to (filter (meets from to) ps)) in
    let kept = one_more id p (filter (meets from to) ps) in
    let left = one_more id p (cut from to ps) in
    grind arith

pub pieces_of-filter : (id : ℕ) (f : flat.Piece → Bool) (ps : List flat.Piece) → pieces_of id (filter f ps) ≤ pieces_of id ps
pieces_of-filter id f [] = omega arith
pieces_of-filter id f (p ∷ ps) = grind (arith, common_steps, one_more, pieces_of-filter id f ps)

-- the pieces that are met, with their keys and without
pub bare-met : (from to : ℕ) (ps : List Stored) → bare_all (met from to ps) ≡ filter (meets from to) (bare_all ps)
bare-met from to [] = refl
bare-met from to (p ∷ ps) = let rest = bare-met from to ps in grind arith

-- nothing is met, so nothing is cut
pub cut-unmet : (from to : ℕ) (ps : List Stored) → met from to ps ≡ [] → cut from to (bare_all ps) ≡ bare_all ps
cut-unmet from to [] none = refl
cut-unmet from to (p ∷ ps) none =
    elim (cases_Bool (meets from to (bare p))) [
      | inl there ↦ absurd (grind (arith, common_steps))
      | inr free ↦
          let rest : cut from to (bare_all ps) ≡ bare_all ps = cut-unmet from to ps (rw free at none) in
          rw free (ap (λ (qs : List flat.Piece). bare p ∷ qs) rest)
    ]

pub seg-met : (from to : ℕ) (ps : List Stored) → map (λ (p : Stored). p.seg) (met from to ps) ≡ cut_segments from to (bare_all ps)
seg-met from to [] = refl
seg-met from to (p ∷ ps) = let rest = seg-met from to ps in grind arith

pub met-meets : (from to : ℕ) (ps : List Stored) (k : ℕ) (d : Stored) → k < length (met from to ps) → meets from to (bare (get_or (met from to ps) k d)) ≡ true
met-meets from to ps k d l = filter_passes (λ (p : Stored). meets from to (bare p)) ps k d l

-- one more piece is done
pub drop-bare : (ps : List Stored) (i : ℕ) (d : Stored) → i < length ps → bare_all (drop i ps) ≡ bare (get_or ps i d) ∷ bare_all (drop (i + 1) ps)
drop-bare ps i d lt = rw (add-one, drop-cons ps i d lt) refl

-- another state of one process
pub runners_live : (l : Life) (es : List (ℕ × Runner)) (i : ℕ) (w v : Runner) → Some w ≡ slice_get (values_of es) i → v.life ≡ l → v.space.pieces ≡ w.space.pieces
    → runners_view (set_value_at es i v) ≡ with_life_at (runners_view es) i (life_view l)
runners_live l es i w v at life space =
    let t = entry_there es i w at in
    rw (entries_set es i (t.0, w) v t.1) (grind (arith, common_steps, map-set, slice_get-map, t.1, life, space))
