-- The search for the least gap may begin after addresses at which no large enough gap begins.
use Rattle.shm_areas.proofs.Names.{◌≡◌, ℕ, zero, suc, ◌+◌, ◌*◌, ◌%◌, ◌<◌, ◌≤◌, ◌⊎◌, inl, inr, true, false, List, [], ◌∷◌, ◌++◌, length, get_or, drop, max, refl, sym, ap, ◌∙◌, arith, common_steps, lt-leb, cases_lt, cases_Bool, both_ways, end_of, meets, parts, occupied, inserted, cut, without_named, first_chosen, lowest_address, gap_from, leb-true, stored_inserted, stored_cut, stored_without, IsPieceRange, Piece, bare, bare_all, Arranged, IsFit, IsFilled, flat_map-cons, min, if◌then◌else◌, nat_le}
use Rattle.shm_base.specs.State as flat
use Rattle.shm_areas.proofs.Edits.{lower, bare_inserted, bare_cut, bare_filter, end_upto}
use Rattle.shm_areas.proofs.Gaps.{free_below, left_past}

-- THE WALK

-- the pieces from an index on are in order too
pub arranged-drop : (low n : ℕ) (ps : List Piece) → Arranged low (bare_all ps) → Arranged low (bare_all (drop n ps))
arranged-drop low zero ps ar = ar
arranged-drop low (suc n) [] ar = ar
arranged-drop low (suc n) (p ∷ ps) ar = arranged-drop low n ps (lower low (end_of (bare p)) (bare_all ps) (omega (arith, ar.0, ar.1.0.some)) ar.1.1)

-- the first piece begins below the end of each range that a piece meets
first-begins : (low a b : ℕ) (p : Piece) (ps : List Piece) → Arranged low (bare_all (p ∷ ps)) → occupied (bare_all (p ∷ ps)) a b ≡ true → p.base < b
first-begins low a b p ps ar full = elim (cases_lt p.base b) [
  | inl lt ↦ lt
  | inr le ↦ absurd (both_ways _ (free_below p.base a b (bare_all (p ∷ ps)) (omega arith, ar.1) le) full)
]

-- a piece that meets a range meets a longer one
occupied-longer : (ps : List flat.Piece) (a b c : ℕ) → b ≤ c → occupied ps a b ≡ true → occupied ps a c ≡ true
occupied-longer [] a b c le full = absurd (both_ways false refl full)
occupied-longer (p ∷ ps) a b c le full = grind (arith, common_steps, full, le, occupied-longer ps a b c le)

-- a piece that begins below a range is passed
passed : (pages base : ℕ) (p : Piece) (ps : List Piece) → p.base < base + 4096 * pages → gap_from pages base (bare_all (p ∷ ps)) ≡ gap_from pages (max base (end_of (bare p))) (bare_all ps)
passed pages base p ps below = rw (lt-leb (base + 4096 * pages) p.base below) refl

skip : (pages filled low base n : ℕ) (ps : List Piece) → 1 ≤ pages → base ≤ filled → Arranged low (bare_all ps)
    → ((a : ℕ) → base ≤ a → a < filled → occupied (bare_all ps) a (a + 4096 * pages) ≡ true)
    → ((k : ℕ) (d : Piece) → k < n → end_of (bare (get_or ps k d)) ≤ filled)
    → ((k : ℕ) (d : Piece) → n ≤ k → k < length ps → filled < end_of (bare (get_or ps k d)))
    → gap_from pages base (bare_all ps) ≡ gap_from pages filled (bare_all (drop n ps))
skip pages filled low base n [] some le ar full before after = elim (cases_lt base filled) [
  | inl lt ↦ absurd (both_ways false refl (full base (omega arith) lt))
  | inr ge ↦ let same : base ≡ filled = omega (arith, le, ge) in grind (arith, common_steps, same)
]
skip pages filled low base zero (p ∷ ps) some le ar full before after = elim (cases_lt base filled) [
  | inl lt ↦
      let begins = first-begins low base (base + 4096 * pages) p ps ar (full base (omega arith) lt) in
      let ends = after 0 p (omega arith) (omega arith) in
      let here : max base (end_of (bare p)) ≡ end_of (bare p) = omega (arith, ends, lt) in
      let there : max filled (end_of (bare p)) ≡ end_of (bare p) = omega (arith, ends) in
      passed pages base p ps begins ∙ ap (λ (b : ℕ). gap_from pages b (bare_all ps)) (here ∙ sym there) ∙ sym (passed pages filled p ps (omega (arith, begins, lt, some)))
  | inr ge ↦ let same : base ≡ filled = omega (arith, le, ge) in rw same refl
]
skip pages filled low base (suc n) (p ∷ ps) some le ar full before after =
    let ends = before 0 p (omega arith) in
    let begins : p.base < base + 4096 * pages = elim (cases_lt base filled) [
      | inl lt ↦ first-begins low base (base + 4096 * pages) p ps ar (full base (omega arith) lt)
      | inr ge ↦ omega (arith, ge, ends, some)
    ] in
    passed pages base p ps begins
    ∙ skip pages filled (end_of (bare p)) (max base (end_of (bare p))) n ps some (omega (arith, le, ends)) ar.1.1
    (λ a from to. sym (left_past (bare_all ps) (bare p) a (a + 4096 * pages) (omega (arith, from))) ∙ full a (omega (arith, from)) to)
    (λ k d lt. before (suc k) d (omega (arith, lt)))
    (λ k d ge lt. after (suc k) d (omega (arith, ge)) (omega (arith, lt)))

-- WHAT STAYS FILLED

occupied-own : (from to : ℕ) (p : flat.Piece) (ps : List flat.Piece) → meets from to p ≡ true → occupied (inserted p ps) from to ≡ true
occupied-own from to p [] m = rw m refl
occupied-own from to p (q ∷ qs) m = grind (arith, common_steps, m, occupied-own from to p qs m)

occupied-more : (from to : ℕ) (p : flat.Piece) (ps : List flat.Piece) → occupied ps from to ≡ true → occupied (inserted p ps) from to ≡ true
occupied-more from to p [] full = absurd (both_ways false refl full)
occupied-more from to p (q ∷ qs) full = grind (arith, common_steps, full, occupied-more from to p qs)

occupied-either : (xs ys : List flat.Piece) (from to : ℕ) → (occupied xs from to ≡ true) ⊎ (occupied ys from to ≡ true) → occupied (xs ++ ys) from to ≡ true
occupied-either [] ys from to (inl h) = absurd (both_ways false refl h)
occupied-either [] ys from to (inr h) = h
occupied-either (x ∷ xs) ys from to h = grind (arith, common_steps, h, occupied-either xs ys from to)

-- the part of a piece below a range still has the addresses that it had there
own-part : (a b from to : ℕ) (p : flat.Piece) → IsFit p → from % 4096 ≡ 0 → a < b → b ≤ from → meets a b p ≡ true → occupied (parts from to p) a b ≡ true
own-part a b from to p fit page lt le m = grind (arith, common_steps, m, end_upto from p fit.aligned page)

occupied-cut_below : (low a b from to : ℕ) (ps : List flat.Piece) → Arranged low ps → from % 4096 ≡ 0 → a < b → b ≤ from → occupied ps a b ≡ true → occupied (cut from to ps) a b ≡ true
occupied-cut_below low a b from to [] ar page lt le full = full
occupied-cut_below low a b from to (p ∷ ps) ar page lt le full =
    rw (flat_map-cons (parts from to) p ps)
    (occupied-either (parts from to p) (cut from to ps) a b
    (elim (cases_Bool (meets a b p)) [
      | inl h ↦ inl (own-part a b from to p ar.1.0 page lt le h)
      | inr h ↦ inr (occupied-cut_below (end_of p) a b from to ps ar.1.1 page lt le (rw h at full))
    ]))

occupied-without : (a b addr seg : ℕ) (ps : List flat.Piece) → b ≤ addr → occupied ps a b ≡ true → occupied (without_named addr seg ps) a b ≡ true
occupied-without a b addr seg [] le full = full
occupied-without a b addr seg (p ∷ ps) le full = grind (arith, common_steps, full, le, occupied-without a b addr seg ps le)

-- THROUGH THE CHANGES

pub filled-inserted : (filled : ℕ) (p : Piece) (ps : List Piece) → IsFit (bare p) → IsFilled filled ps
    → IsFilled (if nat_le p.base filled then max filled (end_of (bare p)) else filled) (stored_inserted p ps)
filled-inserted filled p ps fit f = elim (cases_Bool (nat_le p.base filled)) [
  | inl h ↦
      let near : p.base ≤ filled = leb-true p.base filled h in
      rw h
      record {
        first = omega (arith, f.first);
        high = omega (arith, f.high, fit.within);
        full = λ a from to.
            rw (bare_inserted p ps)
            (elim (cases_lt a filled) [
              | inl lt ↦ occupied-more a (a + 1) (bare p) (bare_all ps) (f.full a from lt)
              | inr ge ↦ occupied-own a (a + 1) (bare p) (bare_all ps) (grind (arith, common_steps, ge, near, to))
            ]);
      }
  | inr h ↦ rw h
      record {
        first = f.first;
        high = f.high;
        full = λ a from to. rw (bare_inserted p ps) (occupied-more a (a + 1) (bare p) (bare_all ps) (f.full a from to));
      }
]

lowered-filled : (filled from : ℕ) (ps qs : List Piece) → IsFilled filled ps
    → ((a : ℕ) → a < from → occupied (bare_all ps) a (a + 1) ≡ true → occupied (bare_all qs) a (a + 1) ≡ true) → IsFilled (min filled (max from first_chosen)) qs
lowered-filled filled from ps qs f kept =
    record {
      first = omega (arith, f.first);
      high = omega (arith, f.high);
      full = λ a ge lt. kept a (omega (arith, ge, lt)) (f.full a ge (omega (arith, lt)));
    }

pub filled-cut : (filled from to : ℕ) (ps : List Piece) → Arranged lowest_address (bare_all ps) → from % 4096 ≡ 0 → IsFilled filled ps → IsFilled (min filled (max from first_chosen)) (stored_cut from to ps)
filled-cut filled from to ps ar page f =
    lowered-filled filled from ps (stored_cut from to ps) f
    (λ a lt full. rw (bare_cut from to ps) (occupied-cut_below lowest_address a (a + 1) from to (bare_all ps) ar page (omega arith) (omega (arith, lt)) full))

pub filled-without : (filled addr seg : ℕ) (ps : List Piece) → IsFilled filled ps → IsFilled (min filled (max addr first_chosen)) (stored_without addr seg ps)
filled-without filled addr seg ps f =
    lowered-filled filled addr ps (stored_without addr seg ps) f
    (λ a lt full. rw (bare_filter addr seg ps) (occupied-without a (a + 1) addr seg (bare_all ps) (omega (arith, lt)) full))

-- the search that begins there, or above, finds the least gap
pub gap-behind : (pages from filled last n : ℕ) (ps : List Piece) → 1 ≤ pages → Arranged lowest_address (bare_all ps) → IsFilled filled ps
    → IsPieceRange (max from filled) (max from filled + 1) ps n last
    → gap_from pages (max from first_chosen) (bare_all ps) ≡ gap_from pages (max from filled) (bare_all (drop n ps))
gap-behind pages from filled last n ps some ar f r =
    skip pages (max from filled) lowest_address (max from first_chosen) n ps some (omega (arith, f.first)) ar
    (λ a ge lt. occupied-longer (bare_all ps) a (a + 1) (a + 4096 * pages) (omega (arith, some)) (f.full a (omega (arith, ge)) (omega (arith, ge, lt))))
    r.before r.after
