-- Pieces in order: the one that has an address.
use Rattle.shm_areas.proofs.Names.{ap, length-map, ◌≡◌, ℕ, zero, suc, ◌+◌, ◌<◌, ◌≤◌, true, false, nat_le, nat_lt, if◌then◌else◌, List, [], ◌∷◌, length, get_or, Option, Some, None, option_map, IfSome, refl, sym, arith, common_steps, le-leb, and_right, none-some, place, place_by, end_of, Piece, bare, bare_all, IsFit, Arranged, covering, occupied, end_address, get_or-map, covers}
use Rattle.shm_areas.proofs.Edits.{all_above, all_kind}
use Rattle.shm_areas.proofs.Passing.{found-passes}
use Rattle.std.specs.List.Sorted.{IsNonDecreasingBy}
use Rattle.shm_base.specs.State as flat

-- the value beyond the end of a list
abbrev pub nothing : Piece
nothing = record { base = 0; seg = 0; first_page = 0; pages = 0; writable = false; may_write = false; key = 0 }

pub bare-get_or : (ps : List Piece) (k : ℕ) (d : Piece) (e : flat.Piece) → k < length ps → bare (get_or ps k d) ≡ get_or (bare_all ps) k e
bare-get_or ps k d e l = grind (arith, common_steps, get_or-map)

pub low_bound : (low : ℕ) (ps : List Piece) (j : ℕ) (d : Piece) → Arranged low (bare_all ps) → j < length ps → low ≤ (get_or ps j d).base
low_bound low ps j d ar lt =
    let at = ap (λ (p : flat.Piece). p.base) (bare-get_or ps j d (bare d) lt) in
    omega (arith, at, all_above IsFit low (bare_all ps) ar j (bare d) (omega (arith, lt, length-map ps bare)))

pub rising : (low : ℕ) (ps : List Piece) → Arranged low (bare_all ps) → IsNonDecreasingBy (λ (p : Piece). p.base) ps
rising low [] ar i j d le lt = absurd (omega arith)
rising low (p ∷ ps) ar zero zero d le lt = omega arith
rising low (p ∷ ps) ar zero (suc j) d le lt = grind (arith, common_steps, low_bound)
rising low (p ∷ ps) ar (suc i) zero d le lt = absurd (omega arith)
rising low (p ∷ ps) ar (suc i) (suc j) d le lt = rising (end_of (bare p)) ps ar.1.1 i j d (omega arith) (omega arith)

-- all pieces begin above the address
pub none_above : (a low : ℕ) (ps : List Piece) → a < low → Arranged low (bare_all ps) → covering a (bare_all ps) ≡ None
none_above a low [] lt ar = refl
none_above a low (p ∷ ps) lt ar = grind (arith, common_steps, none_above a (end_of (bare p)) ps)

pub none_at : (a low : ℕ) (ps : List Piece) → Arranged low (bare_all ps) → ((k : ℕ) (d : Piece) → k < length ps → a < (get_or ps k d).base) → covering a (bare_all ps) ≡ None
none_at a low [] ar above = refl
none_at a low (p ∷ ps) ar above =
    let first : a < p.base = above 0 p (omega arith) in
    grind (arith, common_steps, none_above)

-- the last piece that begins at or below the address is the only one that may cover it
pub covering_last : (a low n : ℕ) (ps : List Piece) (d : Piece) → Arranged low (bare_all ps) → n < length ps
    → ((k : ℕ) (d : Piece) → k < n + 1 → (get_or ps k d).base ≤ a)
    → ((k : ℕ) (d : Piece) → n + 1 ≤ k → k < length ps → a < (get_or ps k d).base)
    → covering a (bare_all ps) ≡ (if nat_lt a (end_of (bare (get_or ps n d))) then Some (bare (get_or ps n d)) else None)
covering_last a low n [] d ar lt below above = absurd (omega arith)
covering_last a low zero (p ∷ ps) d ar lt below above =
    let begins : p.base ≤ a = below 0 d (omega arith) in
    let rest : covering a (bare_all ps) ≡ None = none_at a (end_of (bare p)) ps ar.1.1 (λ k e l. above (suc k) e (omega arith) (omega arith)) in
    grind (arith, common_steps)
covering_last a low (suc n) (p ∷ ps) d ar lt below above =
    let next : end_of (bare p) ≤ (get_or ps 0 d).base = low_bound (end_of (bare p)) ps 0 d ar.1.1 (omega arith) in
    let next_begins : (get_or ps 0 d).base ≤ a = below 1 d (omega arith) in
    let passed : nat_lt a (end_of (bare p)) ≡ false = grind (arith, next, next_begins) in
    let begins : p.base ≤ a = below 0 d (omega arith) in
    let here : nat_le p.base a ≡ true = grind (arith, begins) in
    rw (here, passed)
    (covering_last a (end_of (bare p)) n ps d ar.1.1 (omega arith) (λ k e l. below (suc k) e (omega arith)) (λ k e g l. above (suc k) e (omega arith) (omega arith)))

pub place_covering : (a : ℕ) (ps : List flat.Piece) → place ps a ≡ option_map (λ (p : flat.Piece). place_by p a) (covering a ps)
place_covering a [] = refl
place_covering a (p ∷ ps) = grind (arith, place_covering a ps)

pub fit_at : (low : ℕ) (ps : List Piece) (j : ℕ) (d : Piece) → Arranged low (bare_all ps) → j < length ps → IsFit (bare (get_or ps j d))
fit_at low ps j d ar lt = rw (bare-get_or ps j d (bare d) lt) (all_kind IsFit low (bare_all ps) ar j (bare d) (omega (arith, lt, length-map ps bare)))

-- no piece reaches beyond the last address
pub free_beyond : (low from to : ℕ) (ps : List Piece) → Arranged low (bare_all ps) → end_address ≤ from → occupied (bare_all ps) from to ≡ false
free_beyond low from to [] ar beyond = refl
free_beyond low from to (p ∷ ps) ar beyond =
    let within = ar.1.0.within in
    grind (arith, common_steps, and_right, within, free_beyond (end_of (bare p)) from to ps ar.1.1)

-- ALONE: an address is in at most one piece

pub covering_low : (a low : ℕ) (ps : List flat.Piece) (p : flat.Piece) → Arranged low ps → covering a ps ≡ Some p → low ≤ p.base
covering_low a low ps p ar found = found-passes (λ (q : flat.Piece). low ≤ q.base) (λ (q : flat.Piece). covers q a) ps p (all_above IsFit low ps ar) found

-- the piece with an address has all of its other addresses too
pub covering_whole : (a b low : ℕ) (ps : List flat.Piece) (p : flat.Piece) → Arranged low ps → covering a ps ≡ Some p → p.base ≤ b → b < end_of p → covering b ps ≡ Some p
covering_whole a b low [] p ar found from to = absurd (none-some p found)
covering_whole a b low (q ∷ ps) p ar found from to = grind (arith, common_steps, le-leb, covering_low, and_right, covering_whole a b (end_of q) ps p ar.1.1)

pub whole_of : (addr low : ℕ) (ps : List Piece) (o : Option Piece) → Arranged low (bare_all ps) → option_map bare o ≡ covering addr (bare_all ps)
    → IfSome o (λ p. (b : ℕ) → p.base ≤ b → b < end_of (bare p) → covering b (bare_all ps) ≡ Some (bare p))
whole_of addr low ps None ar found = tt
whole_of addr low ps (Some p) ar found = λ b from to. covering_whole addr b low (bare_all ps) (bare p) ar (sym found) from to
