-- The piece with an origin, among the stored pieces and among what they show.
use Rattle.shm_areas.proofs.Names.{◌≡◌, ◌∙◌, sym, ap, ℕ, zero, suc, ◌+◌, ◌*◌, ◌<◌, ◌≤◌, Bool, true, false, cond, Some, find, option_map, None, List, [], ◌∷◌, ◌++◌, ◌-◌, length, get_or, take, drop, refl, arith, ne_eqb, inl, inr, cases_Bool, has_origin, origin_of, stored_named, stored_without, Piece, bare, bare_all, append_assoc, drop-cons, set, take_more_set, drop-set-lt, All-head, All-tail, AreWithin, taken_between, IsOriginRange, Option, slice_range}
use Rattle.shm_base.specs.State as flat

-- the stored piece shows the piece that the flat machine finds
pub stored_origin : (addr : ℕ) (ps : List Piece) → option_map bare (find (λ (p : Piece). has_origin addr (bare p)) ps) ≡ origin_of addr (bare_all ps)
stored_origin addr [] = refl
stored_origin addr (p ∷ ps) = go (has_origin addr (bare p)) (stored_origin addr ps)
  where
    go : (b : Bool) → option_map bare (find (λ (q : Piece). has_origin addr (bare q)) ps) ≡ origin_of addr (bare_all ps)
        → option_map bare (cond b (Some p) (find (λ (q : Piece). has_origin addr (bare q)) ps)) ≡ cond b (Some (bare p)) (origin_of addr (bare_all ps))
    go true e = refl
    go false e = e

-- and so it names the segment
pub seg_of_origin : (addr : ℕ) (ps : List Piece) → option_map (λ (p : Piece). p.seg) (find (λ (p : Piece). has_origin addr (bare p)) ps) ≡ option_map (λ (p : flat.Piece). p.seg) (origin_of addr (bare_all ps))
seg_of_origin addr ps = rw (← stored_origin addr ps) (same (find (λ (p : Piece). has_origin addr (bare p)) ps))
  where
    same : (o : Option Piece) → option_map (λ (p : Piece). p.seg) o ≡ option_map (λ (p : flat.Piece). p.seg) (option_map bare o)
    same None = refl
    same (Some p) = refl

-- IF NO PIECE HAS A HIGHER PAGE

other-below : (addr : ℕ) (p : Piece) → p.base < addr → has_origin addr (bare p) ≡ false
other-below addr p lt = ne_eqb p.base (addr + 4096 * p.first_page) (λ same. absurd (omega (arith, same, lt)))

other-above : (addr reach : ℕ) (p : Piece) → p.first_page + p.pages ≤ reach → addr + 4096 * reach < p.base → has_origin addr (bare p) ≡ false
other-above addr reach p le lt = ne_eqb p.base (addr + 4096 * p.first_page) (λ same. absurd (omega (arith, same, le, lt)))

Within : ℕ → flat.Piece → Type 0
Within reach p = p.first_page + p.pages ≤ reach

-- no piece farther above has the origin
none-further : (addr reach : ℕ) (ps : List Piece) → AreWithin reach (bare_all ps) → ((k : ℕ) (d : Piece) → k < length ps → addr + 4096 * reach < (get_or ps k d).base)
    → find (λ (p : Piece). has_origin addr (bare p)) ps ≡ None
unfolding Within
none-further addr reach [] within above = refl
none-further addr reach (p ∷ ps) within above =
    rw (other-above addr reach p (All-head (Within reach) (bare p) (bare_all ps) within) (above 0 p (omega arith)))
    (none-further addr reach ps (All-tail (Within reach) (bare p) (bare_all ps) within) (λ k d l. above (suc k) d (omega arith)))

without-further : (addr seg reach : ℕ) (ps : List Piece) → AreWithin reach (bare_all ps) → ((k : ℕ) (d : Piece) → k < length ps → addr + 4096 * reach < (get_or ps k d).base) → stored_without addr seg ps ≡ ps
unfolding Within
without-further addr seg reach [] within above = refl
without-further addr seg reach (p ∷ ps) within above =
    rw (other-above addr reach p (All-head (Within reach) (bare p) (bare_all ps) within) (above 0 p (omega arith)))
    (ap (λ (xs : List Piece). p ∷ xs) (without-further addr seg reach ps (All-tail (Within reach) (bare p) (bare_all ps) within) (λ k d l. above (suc k) d (omega arith))))

rest_range : {addr reach first last f l : ℕ} {p : Piece} {ps : List Piece} → IsOriginRange addr reach (p ∷ ps) first last → f ≡ first - 1 → l ≡ last - 1 → 0 < last → IsOriginRange addr reach ps f l
rest_range r fewer shorter some =
    let order = r.order in
    let bound = r.bound in
    record {
      order = omega arith;
      bound = omega arith;
      below = λ k d l. r.below (suc k) d (omega arith);
      above = λ k d g l. r.above (suc k) d (omega arith) (omega arith);
    }

find-first : (addr reach last : ℕ) (ps : List Piece) → AreWithin reach (bare_all ps) → IsOriginRange addr reach ps 0 last
    → find (λ (p : Piece). has_origin addr (bare p)) (take last ps) ≡ find (λ (p : Piece). has_origin addr (bare p)) ps
unfolding Within
find-first addr reach zero ps within r = sym (none-further addr reach ps within (λ k d l. r.above k d (omega arith) l))
find-first addr reach (suc last) [] within r = refl
find-first addr reach (suc last) (p ∷ ps) within r =
    let rest = find-first addr reach last ps (All-tail (Within reach) (bare p) (bare_all ps) within) (rest_range r (omega arith) (omega arith) (omega arith)) in
    elim (cases_Bool (has_origin addr (bare p))) [
      | inl h ↦ rw h refl
      | inr h ↦ rw h rest
    ]

-- the run has the lowest piece with the origin
pub find-run : (addr reach first last : ℕ) (ps : List Piece) → AreWithin reach (bare_all ps) → IsOriginRange addr reach ps first last
    → find (λ (p : Piece). has_origin addr (bare p)) (slice_range ps first last) ≡ find (λ (p : Piece). has_origin addr (bare p)) ps
unfolding Within
find-run addr reach zero last ps within r = let whole : last - 0 ≡ last = omega arith in rw whole (find-first addr reach last ps within r)
find-run addr reach (suc first) zero ps within r = absurd (omega (arith, r.order))
find-run addr reach (suc first) (suc last) [] within r = absurd (omega (arith, r.bound))
find-run addr reach (suc first) (suc last) (p ∷ ps) within r =
    let shifted : suc last - suc first ≡ last - first = omega arith in
    rw (shifted, other-below addr p (r.below 0 p (omega arith)))
    (find-run addr reach first last ps (All-tail (Within reach) (bare p) (bare_all ps) within) (rest_range r (omega arith) (omega arith) (omega arith)))

taken-first : (addr seg reach last : ℕ) (ps : List Piece) → AreWithin reach (bare_all ps) → IsOriginRange addr reach ps 0 last → stored_without addr seg (take last ps) ++ drop last ps ≡ stored_without addr seg ps
unfolding Within
taken-first addr seg reach zero ps within r = sym (without-further addr seg reach ps within (λ k d l. r.above k d (omega arith) l))
taken-first addr seg reach (suc last) [] within r = absurd (omega (arith, r.bound))
taken-first addr seg reach (suc last) (p ∷ ps) within r =
    let rest = taken-first addr seg reach last ps (All-tail (Within reach) (bare p) (bare_all ps) within) (rest_range r (omega arith) (omega arith) (omega arith)) in
    elim (cases_Bool (stored_named addr seg p)) [
      | inl h ↦ rw h rest
      | inr h ↦ rw h (ap (λ (xs : List Piece). p ∷ xs) rest)
    ]

-- taking the named pieces out of the run takes out all of them
pub taken-run : (addr seg reach first last : ℕ) (ps : List Piece) → AreWithin reach (bare_all ps) → IsOriginRange addr reach ps first last → taken_between addr seg ps first last ≡ stored_without addr seg ps
unfolding Within
taken-run addr seg reach zero last ps within r = let whole : last - 0 ≡ last = omega arith in rw whole (taken-first addr seg reach last ps within r)
taken-run addr seg reach (suc first) zero ps within r = absurd (omega (arith, r.order))
taken-run addr seg reach (suc first) (suc last) [] within r = absurd (omega (arith, r.bound))
taken-run addr seg reach (suc first) (suc last) (p ∷ ps) within r =
    let shifted : suc last - suc first ≡ last - first = omega arith in
    rw (shifted, other-below addr p (r.below 0 p (omega arith)))
    (ap (λ (xs : List Piece). p ∷ xs) (taken-run addr seg reach first last ps (All-tail (Within reach) (bare p) (bare_all ps) within) (rest_range r (omega arith) (omega arith) (omega arith))))

-- ONE BY ONE

-- the final list, if the pieces up to k have moved down to those before `kept`
abbrev pub taken_from : ℕ → ℕ → List Piece → ℕ → ℕ → ℕ → List Piece
taken_from addr seg xs kept k last = take kept xs ++ (stored_without addr seg (take (last - k) (drop k xs)) ++ drop last xs)

pub named-goes : (addr seg : ℕ) (xs : List Piece) (kept k last : ℕ) (x : Piece) → k < last → last ≤ length xs → x ≡ get_or xs k x → stored_named addr seg x ≡ true
    → taken_from addr seg xs kept (k + 1) last ≡ taken_from addr seg xs kept k last
named-goes addr seg xs kept k last x lt bound is named =
    let less : last - k ≡ suc (last - (k + 1)) = omega arith in
    let next : k + 1 ≡ suc k = omega arith in
    let first : drop k xs ≡ x ∷ drop (k + 1) xs = rw next (drop-cons xs k x (omega arith) ∙ ap (λ (y : Piece). y ∷ drop (suc k) xs) (sym is)) in
    rw (first, less, named) refl

pub other-stays : (addr seg : ℕ) (xs : List Piece) (kept k last : ℕ) (x : Piece) → kept ≤ k → k < last → last ≤ length xs → x ≡ get_or xs k x → stored_named addr seg x ≡ false
    → taken_from addr seg (set xs kept x) (kept + 1) (k + 1) last ≡ taken_from addr seg xs kept k last
other-stays addr seg xs kept k last x le lt bound is other =
    let less : last - k ≡ suc (last - (k + 1)) = omega arith in
    let next : k + 1 ≡ suc k = omega arith in
    let first : drop k xs ≡ x ∷ drop (k + 1) xs = rw next (drop-cons xs k x (omega arith) ∙ ap (λ (y : Piece). y ∷ drop (suc k) xs) (sym is)) in
    rw (
      take_more_set xs kept x (omega arith),
      drop-set-lt (k + 1) xs kept x (omega arith),
      drop-set-lt last xs kept x (omega arith),
      append_assoc (take kept xs) (x ∷ []) (stored_without addr seg (take (last - (k + 1)) (drop (k + 1) xs)) ++ drop last xs),
      first,
      less,
      other,
    )
    refl
