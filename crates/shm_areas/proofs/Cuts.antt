-- The pieces that a range meets are consecutive. Taking it out leaves a part of the first of them below, and one of the last
-- above.
use Rattle.shm_areas.proofs.Names.{nat_tests, sym, ◌≡◌, ◌⊎◌, ℕ, zero, suc, ◌-◌, ◌<◌, ◌≤◌, true, false, nat_lt, List, [], ◌∷◌, ◌++◌, length, get_or, take, drop, refl, ap, ◌∙◌, arith, append_assoc, append-nil, length-take, length-drop, common_steps, splice, lt-ltb, le-ltb, cases_lt, cases_eq, and_right, get_or_default, end_of, meets, occupied, Piece, bare, bare_all, Arranged, stored_below, stored_above, stored_cut, met, IsPieceRange, slice_range}
use Rattle.shm_areas.proofs.Placing.{low_bound}

-- one piece

meets_it : (from to : ℕ) (p : Piece) → p.base < to → from < end_of (bare p) → meets from to (bare p) ≡ true
meets_it from to p before after = rw (lt-ltb p.base to before, lt-ltb from (end_of (bare p)) after) refl

is_above : (from to : ℕ) (p : Piece) → to ≤ p.base → meets from to (bare p) ≡ false
is_above from to p le = rw (le-ltb p.base to le) refl

is_below : (from to : ℕ) (p : Piece) → end_of (bare p) ≤ from → meets from to (bare p) ≡ false
is_below from to p le = and_right (nat_lt p.base to) (nat_lt from (end_of (bare p))) (le-ltb from (end_of (bare p)) le)

-- the run without its first piece

rest_run : {from to first last f l : ℕ} {p : Piece} {ps : List Piece} → IsPieceRange from to (p ∷ ps) first last → f ≡ first - 1 → l ≡ last - 1 → IsPieceRange from to ps f l
rest_run r fewer shorter =
    let order = r.order in
    let bound = r.bound in
    record {
      order = omega arith;
      bound = omega arith;
      before = λ k d l. r.before (suc k) d (omega arith);
      after = λ k d g l. r.after (suc k) d (omega arith) (omega arith);
      below = λ k d l. r.below (suc k) d (omega arith);
      above = λ k d g l. r.above (suc k) d (omega arith) (omega arith);
    }

-- THE PIECES THAT ARE MET

take_met : (from to : ℕ) (ps : List Piece) (last : ℕ) → IsPieceRange from to ps 0 last → take last ps ≡ met from to ps
take_met from to [] zero r = refl
take_met from to [] (suc last) r = absurd (omega (arith, r.bound))
take_met from to (p ∷ ps) zero r =
    rw (is_above from to p (r.above 0 p (omega arith) (omega arith))) (take_met from to ps zero (rest_run r (omega arith) (omega arith)))
take_met from to (p ∷ ps) (suc last) r =
    rw (meets_it from to p (r.below 0 p (omega arith)) (r.after 0 p (omega arith) (omega arith)))
    (ap (λ (xs : List Piece). p ∷ xs) (take_met from to ps last (rest_run r (omega arith) (omega arith))))

pub slice-met : (from to : ℕ) (ps : List Piece) (first last : ℕ) → IsPieceRange from to ps first last → slice_range ps first last ≡ met from to ps
slice-met from to ps zero last r = let whole : last - 0 ≡ last = omega arith in rw whole (take_met from to ps last r)
slice-met from to ps (suc first) zero r = absurd (omega (arith, r.order))
slice-met from to [] (suc first) (suc last) r = absurd (omega (arith, r.bound))
slice-met from to (p ∷ ps) (suc first) (suc last) r =
    let shifted : suc last - suc first ≡ last - first = omega arith in
    rw (shifted, is_below from to p (r.before 0 p (omega arith))) (slice-met from to ps first last (rest_run r (omega arith) (omega arith)))

pub occupied-met : (from to : ℕ) (ps : List Piece) → occupied (bare_all ps) from to ≡ nat_lt 0 (length (met from to ps))
occupied-met from to [] = refl
occupied-met from to (p ∷ ps) = grind (arith, common_steps, occupied-met from to ps)

pub occupied-run : (from to : ℕ) (ps : List Piece) (first last : ℕ) → IsPieceRange from to ps first last → nat_lt first last ≡ occupied (bare_all ps) from to
occupied-run from to ps first last r =
    let long : length (met from to ps) ≡ last - first = ap length (sym (slice-met from to ps first last r)) ∙ simp (length-take, length-drop) (omega (arith, r.bound)) in
    rw (occupied-met from to ps, long) (grind (arith, nat_tests))

-- WHAT IS LEFT

-- nothing is met, nothing is cut
pub cut-none : (from to : ℕ) (ps : List Piece) (first : ℕ) → IsPieceRange from to ps first first → stored_cut from to ps ≡ ps
cut-none from to [] first r = refl
cut-none from to (p ∷ ps) zero r =
    rw (is_above from to p (r.above 0 p (omega arith) (omega arith))) (ap (λ (xs : List Piece). p ∷ xs) (cut-none from to ps zero (rest_run r (omega arith) (omega arith))))
cut-none from to (p ∷ ps) (suc first) r =
    rw (is_below from to p (r.before 0 p (omega arith))) (ap (λ (xs : List Piece). p ∷ xs) (cut-none from to ps first (rest_run r (omega arith) (omega arith))))

-- a piece that begins in the range leaves nothing below it, and one that ends in it leaves nothing above
below-none : (from : ℕ) (p : Piece) → from ≤ p.base → stored_below from p ≡ []
below-none from p le = rw (le-ltb p.base from le) refl

above-none : (to : ℕ) (p : Piece) → end_of (bare p) ≤ to → stored_above to p ≡ []
above-none to p le = rw (le-ltb to (end_of (bare p)) le) refl

-- a piece of the run that is not the last ends in the range
ends_in : (from to last low : ℕ) (p : Piece) (ps : List Piece) → Arranged low (bare_all (p ∷ ps)) → IsPieceRange from to (p ∷ ps) 0 (suc (suc last)) → end_of (bare p) ≤ to
ends_in from to last low p ps ar r = grind (arith, common_steps, low_bound)

-- all pieces of the run begin in the range
cut-begun : (from to last low : ℕ) (ps : List Piece) (d : Piece) → Arranged low (bare_all ps) → from ≤ low → IsPieceRange from to ps 0 (suc last)
    → stored_cut from to ps ≡ stored_above to (get_or ps last d) ++ drop (suc last) ps
cut-begun from to last low [] d ar le r = absurd (omega (arith, r.bound))
cut-begun from to zero low (p ∷ ps) d ar le r =
    let first : low ≤ p.base = ar.0 in
    rw (meets_it from to p (r.below 0 p (omega arith)) (r.after 0 p (omega arith) (omega arith)), below-none from p (omega (arith, le, first)))
    (ap (λ (xs : List Piece). stored_above to p ++ xs) (cut-none from to ps zero (rest_run r (omega arith) (omega arith))))
cut-begun from to (suc last) low (p ∷ ps) d ar le r =
    let first : low ≤ p.base = ar.0 in
    let after : from < end_of (bare p) = r.after 0 p (omega arith) (omega arith) in
    rw (
      meets_it from to p (r.below 0 p (omega arith)) after,
      below-none from p (omega (arith, le, first)),
      above-none to p (ends_in from to last low p ps ar r),
    )
    (cut-begun from to last (end_of (bare p)) ps d ar.1.1 (omega (arith, after)) (rest_run r (omega arith) (omega arith)))

pub cut-run : (from to first last low : ℕ) (ps : List Piece) (d : Piece) → Arranged low (bare_all ps) → IsPieceRange from to ps first (suc last) → first < suc last
    → splice ps first (suc last) (stored_below from (get_or ps first d) ++ stored_above to (get_or ps last d)) ≡ stored_cut from to ps
cut-run from to first last low [] d ar r lt = absurd (omega (arith, r.bound))
cut-run from to zero zero low (p ∷ ps) d ar r lt =
    let none = cut-none from to ps zero (rest_run r (omega arith) (omega arith)) in
    rw (meets_it from to p (r.below 0 p (omega arith)) (r.after 0 p (omega arith) (omega arith)), none) refl
cut-run from to zero (suc last) low (p ∷ ps) d ar r lt =
    let after : from < end_of (bare p) = r.after 0 p (omega arith) (omega arith) in
    let rest = cut-begun from to last (end_of (bare p)) ps d ar.1.1 (omega (arith, after)) (rest_run r (omega arith) (omega arith)) in
    rw (
      meets_it from to p (r.below 0 p (omega arith)) after,
      above-none to p (ends_in from to last low p ps ar r),
      rest,
      append-nil (stored_below from p),
      append_assoc (stored_below from p) (stored_above to (get_or ps last d)) (drop (suc last) ps),
    )
    refl
cut-run from to (suc first) zero low (p ∷ ps) d ar r lt = absurd (omega (arith, lt))
cut-run from to (suc first) (suc last) low (p ∷ ps) d ar r lt =
    rw (is_below from to p (r.before 0 p (omega arith)))
    (ap (λ (xs : List Piece). p ∷ xs) (cut-run from to first last (end_of (bare p)) ps d ar.1.1 (rest_run r (omega arith) (omega arith)) (omega (arith, lt))))

-- THE SEARCH FOR THE RUN

-- a piece ends before the later ones begin
pub ends_before : (low : ℕ) (ps : List Piece) (k j : ℕ) (d e : Piece) → Arranged low (bare_all ps) → k < j → j < length ps
    → end_of (bare (get_or ps k d)) ≤ (get_or ps j e).base
ends_before low [] k j d e ar lt within = absurd (omega arith)
ends_before low (p ∷ ps) k zero d e ar lt within = absurd (omega arith)
ends_before low (p ∷ ps) zero (suc j) d e ar lt within = low_bound (end_of (bare p)) ps j e ar.1.1 (omega arith)
ends_before low (p ∷ ps) (suc k) (suc j) d e ar lt within = ends_before (end_of (bare p)) ps k j d e ar.1.1 (omega arith) (omega arith)

-- how many pieces begin at or below an address
pub record IsCount (addr : ℕ) (ps : List Piece) (count : ℕ) : Type 0 where
  pub bound : count ≤ length ps
  pub below : (k : ℕ) (d : Piece) → k < count → (get_or ps k d).base ≤ addr
  pub above : (k : ℕ) (d : Piece) → count ≤ k → k < length ps → addr < (get_or ps k d).base

-- the last piece that begins at or below the range reaches into it
pub run_from : (low from to count last : ℕ) (ps : List Piece) (e : Piece) → Arranged low (bare_all ps) → from < to → IsCount from ps count → IsCount (to - 1) ps last
    → 0 < count → from < end_of (bare (get_or ps (count - 1) e)) → IsPieceRange from to ps (count - 1) last
run_from low from to count last ps e ar lt c l some reaches = grind (arith, common_steps, cases_lt, end_of, bare, ends_before, get_or_default)

-- or it does not, or there is no such piece
pub run_behind : (low from to count last : ℕ) (ps : List Piece) (e : Piece) → Arranged low (bare_all ps) → from < to → IsCount from ps count → IsCount (to - 1) ps last
    → (count ≡ 0) ⊎ (end_of (bare (get_or ps (count - 1) e)) ≤ from) → IsPieceRange from to ps count last
run_behind low from to count last ps e ar lt c l over = grind (arith, common_steps, cases_lt, cases_eq, end_of, bare, get_or_default, ends_before)
