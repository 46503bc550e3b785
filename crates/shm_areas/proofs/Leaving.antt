-- Only the first and the last of the pieces that a range meets leave a part.
use Rattle.shm_areas.proofs.Names.{◌≡◌, ℕ, suc, ◌-◌, ◌<◌, ◌≤◌, true, List, [], ◌∷◌, ◌++◌, length, get_or, refl, arith, common_steps, end_of, meets, Piece, bare, bare_all, Arranged, met, All, All-head, All-tail, rest_segments}

Meets : ℕ → ℕ → Piece → Type 0
Meets from to p = meets from to (bare p) ≡ true

-- the rests of some pieces, and of others
rests-cons : (from to : ℕ) (p : Piece) (ps : List Piece) → rest_segments from to (bare_all (p ∷ ps)) ≡ rest_segments from to (bare p ∷ []) ++ rest_segments from to (bare_all ps)
rests-cons from to p ps = grind arith

-- a piece with another after it ends in the range; if it also begins there, it leaves nothing
inner : (from to low : ℕ) (p q : Piece) (ps : List Piece) → from ≤ low → Arranged low (bare_all (p ∷ q ∷ ps)) → All (Meets from to) (p ∷ q ∷ ps) → rest_segments from to (bare p ∷ []) ≡ []
unfolding Meets
inner from to low p q ps le ar all =
    let next = All-head (Meets from to) q ps (All-tail (Meets from to) p (q ∷ ps) all) in
    grind (arith, common_steps, next, ar.0, ar.1.1.0)

-- if all begin in the range, only the last leaves a part
rests-begun : (from to low : ℕ) (p : Piece) (ps : List Piece) (d : Piece) → from ≤ low → Arranged low (bare_all (p ∷ ps)) → All (Meets from to) (p ∷ ps)
    → rest_segments from to (bare_all (p ∷ ps)) ≡ rest_segments from to (bare (get_or (p ∷ ps) (length ps) d) ∷ [])
rests-begun from to low p [] d le ar all = refl
rests-begun from to low p (q ∷ qs) d le ar all =
    let first : low ≤ p.base = ar.0 in
    let more : from ≤ end_of (bare p) = omega (arith, le, first) in
    let rest = rests-begun from to (end_of (bare p)) q qs d more ar.1.1 (All-tail (Meets from to) p (q ∷ qs) all) in
    rw (rests-cons from to p (q ∷ qs), inner from to low p q qs le ar all, rest) refl

-- a single piece, or the first and the last of several
pub rests-one : (from to : ℕ) (ps : List Piece) (d : Piece) → length ps ≡ 1 → rest_segments from to (bare_all ps) ≡ rest_segments from to (bare (get_or ps 0 d) ∷ [])
rests-one from to [] d one = absurd (omega (arith, one))
rests-one from to (p ∷ []) d one = refl
rests-one from to (p ∷ q ∷ qs) d one = absurd (omega (arith, one))

pub rests-many : (from to low : ℕ) (ps : List Piece) (d : Piece) → Arranged low (bare_all ps) → All (λ (p : Piece). meets from to (bare p) ≡ true) ps → 1 < length ps
    → rest_segments from to (bare_all ps) ≡ rest_segments from to (bare (get_or ps 0 d) ∷ []) ++ rest_segments from to (bare (get_or ps (length ps - 1) d) ∷ [])
unfolding Meets
rests-many from to low [] d ar all more = absurd (omega (arith, more))
rests-many from to low (p ∷ []) d ar all more = absurd (omega (arith, more))
rests-many from to low (p ∷ q ∷ qs) d ar all more =
    let first = All-head (Meets from to) p (q ∷ qs) all in
    let reaches : from ≤ end_of (bare p) = grind (arith, common_steps, first) in
    let rest = rests-begun from to (end_of (bare p)) q qs d reaches ar.1.1 (All-tail (Meets from to) p (q ∷ qs) all) in
    let behind : length (p ∷ q ∷ qs) - 1 ≡ suc (length qs) = omega arith in
    rw (rests-cons from to p (q ∷ qs), rest, behind) refl

-- only the pieces that the range meets leave rests
pub rests-met : (from to : ℕ) (ps : List Piece) → rest_segments from to (bare_all (met from to ps)) ≡ rest_segments from to (bare_all ps)
rests-met from to [] = refl
rests-met from to (p ∷ ps) = grind (arith, common_steps, rests-met from to ps)
