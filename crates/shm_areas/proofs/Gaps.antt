-- Going up the pieces finds the least gap of the definition.
use Rattle.shm_areas.proofs.Names.{Some, None, cases_Bool, sym, ap, Option, ◌≡◌, ℕ, ◌+◌, ◌*◌, ◌%◌, ◌<◌, ◌≤◌, ◌⊎◌, inl, inr, Bool, true, false, List, [], ◌∷◌, length, get_or, map, find, max, MatchOption, refl, ◌∙◌, arith, drop, drop-cons, add-one, common_steps, le-leb, lt-leb, cases_lt, false_from_ne_true, and_right, both_ways, end_of, lowest_address, first_chosen, end_address, occupied, is_gap, choose, Stored, bare, bare_all, Arranged, gap_from, IsLeastGap, HasNoGap, subst}
use Rattle.shm_base.specs.State.{Piece}

pub free_below : (low from to : ℕ) (ps : List Piece) → Arranged low ps → to ≤ low → occupied ps from to ≡ false
free_below low from to [] ar le = refl
free_below low from to (p ∷ ps) ar le = grind (arith, common_steps, free_below (end_of p) from to ps ar.1.1)

gap_here : (all ps : List Piece) (pages c : ℕ) → first_chosen ≤ c → c + 4096 * pages ≤ end_address
    → occupied all c (c + 4096 * pages) ≡ false → is_gap all pages c ≡ true
gap_here all ps pages c low high free = rw (le-leb first_chosen c low, le-leb (c + 4096 * pages) end_address high, free) refl

-- a piece that begins below the end of a range and ends above its beginning is in the way
met : (all ps : List Piece) (p : Piece) (pages b : ℕ) → occupied all b (b + 4096 * pages) ≡ occupied (p ∷ ps) b (b + 4096 * pages)
    → p.base < b + 4096 * pages → b < end_of p → is_gap all pages b ≡ false
met all ps p pages b same below above = grind (arith, common_steps)

too_high : (all : List Piece) (pages b : ℕ) → end_address < b + 4096 * pages → is_gap all pages b ≡ false
too_high all pages b high = rw (lt-leb (b + 4096 * pages) end_address high) (grind arith)

too_low : (all : List Piece) (pages b : ℕ) → b < first_chosen → is_gap all pages b ≡ false
too_low all pages b low = rw (lt-leb first_chosen b low) refl

pub left_past : (ps : List Piece) (p : Piece) (from to : ℕ) → end_of p ≤ from → occupied (p ∷ ps) from to ≡ occupied ps from to
left_past ps p from to le = grind (arith, common_steps, and_right)

end_aligned : (p : Piece) → p.base % 4096 ≡ 0 → end_of p % 4096 ≡ 0
end_aligned p e = omega (arith, e)

pub low_gap : (all : List Piece) (pages b : ℕ) → is_gap all pages b ≡ true → (b < first_chosen) ⊎ (first_chosen ≤ b) → first_chosen ≤ b
low_gap all pages b gap (inr h) = h
low_gap all pages b gap (inl h) = let none : is_gap all pages b ≡ false = too_low all pages b h in absurd (both_ways _ none gap)

-- an element of a list
abbrev pub Among : ℕ → List ℕ → Type 0
Among b [] = ⊥
Among b (x ∷ xs) = (b ≡ x) ⊎ Among b xs

-- on the way up: the remaining pieces, and that nothing from the first address to this one is a gap
record Climb (all : List Piece) (pages from c low : ℕ) (ps : List Piece) : Type 0 where
  arranged : Arranged low ps
  first : first_chosen ≤ c
  above : from ≤ c
  left : (a to : ℕ) → c ≤ a → occupied all a to ≡ occupied ps a to
  least : (b : ℕ) → from ≤ b → is_gap all pages b ≡ true → c ≤ b
  aligned : c % 4096 ≡ 0

-- the least gap from an address on, which begins there or at the end of a piece
pub record IsNextGap (all ps : List Piece) (pages from c base : ℕ) : Type 0 where
  pub gap : is_gap all pages base ≡ true
  pub aligned : base % 4096 ≡ 0
  pub above : from ≤ base
  pub least : (b : ℕ) → from ≤ b → is_gap all pages b ≡ true → base ≤ b
  pub among : Among base (c ∷ map end_of ps)

abbrev pub NextGap : List Piece → List Piece → ℕ → ℕ → ℕ → Option ℕ → Type 0
NextGap all ps pages from c found = MatchOption found ((b : ℕ) → from ≤ b → is_gap all pages b ≡ false) (λ base. IsNextGap all ps pages from c base)

found-later : (all ps : List Piece) (p : Piece) (pages from c d : ℕ) (found : Option ℕ) → (d ≡ c) ⊎ (d ≡ end_of p) → NextGap all ps pages from d found → NextGap all (p ∷ ps) pages from c found
found-later all ps p pages from c d None e h = h
found-later all ps p pages from c d (Some base) e h =
    record {
      gap = h.gap;
      aligned = h.aligned;
      above = h.above;
      least = h.least;
      among = elim h.among [
        | inl own ↦ elim e [ inl same ↦ inl (own ∙ same) | inr end ↦ inr (inl (own ∙ end)) ]
        | inr rest ↦ inr (inr rest)
      ];
    }

climbed : (all ps : List Piece) (pages from c low : ℕ) → Climb all pages from c low ps → NextGap all ps pages from c (gap_from pages c ps)
climbed all [] pages from c low w = elim (cases_lt end_address (c + 4096 * pages)) [
  | inl high ↦ rw (lt-leb (c + 4096 * pages) end_address high) (λ b le. elim (cases_Bool (is_gap all pages b)) [
    | inl gap ↦ let up = w.least b le gap in too_high all pages b (omega (arith, up, high))
    | inr none ↦ none
  ])
  | inr fits ↦
      let free : occupied all c (c + 4096 * pages) ≡ false = w.left c (c + 4096 * pages) (omega arith) in
      rw (le-leb (c + 4096 * pages) end_address fits)
      (record { gap = gap_here all [] pages c w.first fits free; aligned = w.aligned; above = w.above; least = w.least; among = inl refl })
]
climbed all (p ∷ ps) pages from c low w = elim (cases_lt p.base (c + 4096 * pages)) [
  | inl below ↦ elim (cases_lt c (end_of p)) [
    | inl over ↦
        let more : max c (end_of p) ≡ end_of p = omega (arith, over) in
        let next : Climb all pages from (end_of p) (end_of p) ps = record {
          arranged = w.arranged.1.1;
          first = omega (arith, w.first, over);
          above = omega (arith, w.above, over);
          left = λ a to le. w.left a to (omega (arith, le, over)) ∙ left_past ps p a to le;
          least = λ b le gap. elim (cases_lt b (end_of p)) [
            | inl lt ↦
                let up = w.least b le gap in
                let none = met all ps p pages b (w.left b (b + 4096 * pages) up) (omega (arith, below, up)) lt in
                absurd (both_ways (is_gap all pages b) none gap)
            | inr ge ↦ ge
          ];
          aligned = end_aligned p w.arranged.1.0.aligned;
        } in
        rw (lt-leb (c + 4096 * pages) p.base below, more) (found-later all ps p pages from c (end_of p) _ (inr refl) (climbed all ps pages from (end_of p) (end_of p) next))
    | inr past ↦
        let same : max c (end_of p) ≡ c = omega (arith, past) in
        let next : Climb all pages from c (end_of p) ps = record {
          arranged = w.arranged.1.1;
          first = w.first;
          above = w.above;
          left = λ a to le. w.left a to le ∙ left_past ps p a to (omega (arith, le, past));
          least = w.least;
          aligned = w.aligned;
        } in
        rw (lt-leb (c + 4096 * pages) p.base below, same) (found-later all ps p pages from c c _ (inl refl) (climbed all ps pages from c (end_of p) next))
  ]
  | inr fits ↦
      let free : occupied all c (c + 4096 * pages) ≡ false = w.left c (c + 4096 * pages) (omega arith) ∙ free_below p.base c (c + 4096 * pages) (p ∷ ps) (omega arith, w.arranged.1) fits in
      let high : c + 4096 * pages ≤ end_address = omega (arith, fits, w.arranged.1.0.within, w.arranged.1.0.some) in
      rw (le-leb (c + 4096 * pages) p.base fits)
      (record { gap = gap_here all (p ∷ ps) pages c w.first high free; aligned = w.aligned; above = w.above; least = w.least; among = inl refl })
]

pub next_gap : (ps : List Piece) (pages from : ℕ) → Arranged lowest_address ps → from % 4096 ≡ 0 → NextGap ps ps pages (max from first_chosen) (max from first_chosen) (gap_from pages (max from first_chosen) ps)
next_gap ps pages from ar page =
    climbed ps ps pages (max from first_chosen) (max from first_chosen) lowest_address
    (record {
      arranged = ar;
      first = omega arith;
      above = omega arith;
      left = λ a to le. refl;
      least = λ b le gap. le;
      aligned = omega (arith, page);
    })

-- WHAT THE DEFINITION CHOOSES

-- the pieces end one after the other
ends_above : (b low : ℕ) (ps : List Piece) → Arranged low ps → Among b (map end_of ps) → low < b
ends_above b low [] ar h = absurd h
ends_above b low (p ∷ ps) ar (inl h) = omega (arith, ar.0, ar.1.0.some, h)
ends_above b low (p ∷ ps) ar (inr h) = let rest = ends_above b (end_of p) ps ar.1.1 h in omega (arith, ar.0, rest)

-- so the least of them that passes is the first
first_end : (test : ℕ → Bool) (b low : ℕ) (ps : List Piece) → Arranged low ps → test b ≡ true → ((x : ℕ) → test x ≡ true → b ≤ x) → Among b (map end_of ps) → find test (map end_of ps) ≡ Some b
first_end test b low [] ar own least h = absurd h
first_end test b low (p ∷ ps) ar own least (inl h) = rw (← h, own) refl
first_end test b low (p ∷ ps) ar own least (inr h) = elim (cases_Bool (test (end_of p))) [
  | inl passes ↦ absurd (let above = ends_above b (end_of p) ps ar.1.1 h in omega (arith, above, least (end_of p) passes))
  | inr fails ↦ rw fails (first_end test b (end_of p) ps ar.1.1 own least h)
]

none_found : (test : ℕ → Bool) (xs : List ℕ) → ((x : ℕ) → test x ≡ false) → find test xs ≡ None
none_found test [] none = refl
none_found test (x ∷ xs) none = rw (none x) (none_found test xs none)

-- the search finds what the definition does: the least gap
pub record IsChosen (ps : List Piece) (pages : ℕ) (found : Option ℕ) : Type 0 where
  pub same : found ≡ choose ps pages
  pub law : MatchOption found (HasNoGap ps pages) (λ base. IsLeastGap ps pages base)

chosen : (ps : List Piece) (pages : ℕ) (o : Option ℕ) → Arranged lowest_address ps → NextGap ps ps pages first_chosen first_chosen o → IsChosen ps pages o
chosen ps pages None ar h =
    let none = λ (b : ℕ). false_from_ne_true (is_gap ps pages b) (λ gap. both_ways (is_gap ps pages b) (h b (low_gap ps pages b gap (cases_lt b first_chosen))) gap) in
    record { same = sym (none_found (is_gap ps pages) (first_chosen ∷ map end_of ps) none); law = none }
chosen ps pages (Some base) ar h = record { same = sym (first h.among); law = record { gap = h.gap; aligned = h.aligned; least = least } }
  where
    least : (b : ℕ) → is_gap ps pages b ≡ true → base ≤ b
    least b gap = h.least b (low_gap ps pages b gap (cases_lt b first_chosen)) gap

    first : Among base (first_chosen ∷ map end_of ps) → choose ps pages ≡ Some base
    first (inl own) = let passes : is_gap ps pages first_chosen ≡ true = subst (λ a. is_gap ps pages a ≡ true) own h.gap in rw passes (ap Some (sym own))
    first (inr end) = elim (cases_Bool (is_gap ps pages first_chosen)) [
      | inl passes ↦ rw passes (ap Some (let le = least first_chosen passes in omega (arith, le, h.above)))
      | inr fails ↦ rw fails (first_end (is_gap ps pages) base lowest_address ps ar h.gap least end)
    ]

pub chosen_gap : (ps : List Piece) (pages : ℕ) → Arranged lowest_address ps → IsChosen ps pages (gap_from pages first_chosen ps)
chosen_gap ps pages ar = chosen ps pages (gap_from pages first_chosen ps) ar (next_gap ps pages 0 ar refl)

pub gap_step : (ps : List Stored) (i pages base : ℕ) (d : Stored) → i < length ps → (get_or ps i d).base < base + 4096 * pages
    → gap_from pages base (bare_all (drop i ps)) ≡ gap_from pages (max base (end_of (bare (get_or ps i d)))) (bare_all (drop (i + 1) ps))
gap_step ps i pages base d lt below = grind (arith, common_steps, add-one, drop-cons, lt-leb)
