-- The search from the first address and from the ends of the reserved ranges finds the least gap beside them.
use Rattle.shm_areas.proofs.Names.{◌≡◌, ℕ, ◌+◌, ◌*◌, ◌%◌, ◌≤◌, ◌⊎◌, inl, inr, Bool, true, false, nat_le, if◌then◌else◌, List, [], ◌∷◌, ◌++◌, drop, length, map, max, Option, Some, None, MatchOption, refl, sym, ap, ◌∙◌, arith, common_steps, cases_lt, cases_Bool, both_ways, le-leb, lt-leb, leb-true, none-some, false_from_ne_true, end_of, lowest_address, first_chosen, end_address, is_gap, Arranged, gap_from, subst, eq-eqb, All-cons, All-filter, All-head, All-nil, All-tail, choose_beside, is_free_gap, is_reserved, least_where, lesser, ranges_of, AreRanges, free_from, free_from_ends, lesser_of, unless_reserved, IsLeastFreeGap, HasNoFreeGap, is_some, min, ◌==◌, All, IfSome, ◌&&◌, not}
use Rattle.std.proofs.Math.ListN.{drop_of_length-le}
use Rattle.shm_base.specs.State.{Piece}
use Rattle.shm_base.specs.declared.guest.HostRange.{HostRange}
use Rattle.shm_base.specs.Guest.{is_range}
use Rattle.shm_areas.proofs.Gaps.{Among, NextGap, low_gap, next_gap}

-- THE LEAST OF A LIST

among-left : (b : ℕ) (xs ys : List ℕ) → Among b xs → Among b (xs ++ ys)
among-left b [] ys h = absurd h
among-left b (x ∷ xs) ys (inl h) = inl h
among-left b (x ∷ xs) ys (inr h) = inr (among-left b xs ys h)

among-right : (b : ℕ) (xs ys : List ℕ) → Among b ys → Among b (xs ++ ys)
among-right b [] ys h = h
among-right b (x ∷ xs) ys h = inr (among-right b xs ys h)

least-low : (test : ℕ → Bool) (b : ℕ) (xs : List ℕ) → ((x : ℕ) → test x ≡ true → b ≤ x) → lesser b (least_where test xs) ≡ Some b
least-low test b [] low = refl
least-low test b (x ∷ xs) low = elim (cases_Bool (test x)) [
  | inl h ↦ let le = low x h in let rest = least-low test b xs low in grind (arith, common_steps, h, le, rest)
  | inr h ↦ rw h (least-low test b xs low)
]

least-is : (test : ℕ → Bool) (b : ℕ) (xs : List ℕ) → test b ≡ true → ((x : ℕ) → test x ≡ true → b ≤ x) → Among b xs → least_where test xs ≡ Some b
least-is test b [] own low h = absurd h
least-is test b (x ∷ xs) own low (inl h) = rw (← h, own) (least-low test b xs low)
least-is test b (x ∷ xs) own low (inr h) = elim (cases_Bool (test x)) [
  | inl t ↦ let le = low x t in rw (t, least-is test b xs own low h) (ap Some (omega (arith, le)))
  | inr f ↦ rw f (least-is test b xs own low h)
]

least-none : (test : ℕ → Bool) (xs : List ℕ) → ((x : ℕ) → test x ≡ false) → least_where test xs ≡ None
least-none test [] none = refl
least-none test (x ∷ xs) none = rw (none x) (least-none test xs none)

-- THE SEARCH AMONG THE PIECES FROM AN ADDRESS

pub gap-room : (pages c low : ℕ) (ps : List Piece) → Arranged low ps → IfSome (gap_from pages c ps) (λ base. base + 4096 * pages ≤ end_address)
gap-room pages c low [] ar = elim (cases_lt end_address (c + 4096 * pages)) [
  | inl high ↦ rw (lt-leb (c + 4096 * pages) end_address high) tt
  | inr fits ↦ rw (le-leb (c + 4096 * pages) end_address fits) fits
]
gap-room pages c low (p ∷ ps) ar = elim (cases_lt p.base (c + 4096 * pages)) [
  | inl below ↦ rw (lt-leb (c + 4096 * pages) p.base below) (gap-room pages (max c (end_of p)) (end_of p) ps ar.1.1)
  | inr fits ↦ rw (le-leb (c + 4096 * pages) p.base fits) (omega (arith, fits, ar.1.0.within, ar.1.0.some))
]

-- THE SEARCH BESIDE RESERVED RANGES

abbrev starts : List Piece → List HostRange → List ℕ
starts ps rs = first_chosen ∷ map end_of ps ++ map (λ (r : HostRange). r.to) rs

record IsFound (ps : List Piece) (rs : List HostRange) (pages base : ℕ) : Type 0 where
  free : is_free_gap ps rs pages base ≡ true
  aligned : base % 4096 ≡ 0
  among : Among base (starts ps rs)

abbrev Found : List Piece → List HostRange → ℕ → Option ℕ → Type 0
Found ps rs pages o = IfSome o (λ b. IsFound ps rs pages b)

found-at : (ps : List Piece) (rs : List HostRange) (pages c : ℕ) (o : Option ℕ) → Among c (starts ps rs) → NextGap ps ps pages c c o → Found ps rs pages (unless_reserved rs pages o)
found-at ps rs pages c None start h = tt
found-at ps rs pages c (Some b) start h = elim (cases_Bool (is_reserved rs b (b + 4096 * pages))) [
  | inl taken ↦ rw taken tt
  | inr free ↦
      let among : Among b (starts ps rs) = elim h.among [
        | inl own ↦ subst (λ a. Among a (starts ps rs)) (sym own) start
        | inr end ↦ inr (among-left b (map end_of ps) (map (λ (r : HostRange). r.to) rs) end)
      ] in
      rw free (record { free = rw (eq-eqb (b % 4096) 0 h.aligned, h.gap, free) refl; aligned = h.aligned; among = among })
]

start-among : (ps : List Piece) (rs : List HostRange) (from : ℕ) → (from ≡ 0) ⊎ Among from (map (λ (r : HostRange). r.to) rs) → Among (max from first_chosen) (starts ps rs)
start-among ps rs from (inl none) = inl (rw none refl)
start-among ps rs from (inr end) = elim (cases_lt from first_chosen) [
  | inl low ↦ inl (omega (arith, low))
  | inr high ↦
      let same : max from first_chosen ≡ from = omega (arith, high) in
      subst (λ a. Among a (starts ps rs)) (sym same) (inr (among-right from (map end_of ps) (map (λ (r : HostRange). r.to) rs) end))
]

found-from : (ps : List Piece) (rs : List HostRange) (pages from : ℕ) → Arranged lowest_address ps → from % 4096 ≡ 0
    → (from ≡ 0) ⊎ Among from (map (λ (r : HostRange). r.to) rs) → Found ps rs pages (free_from ps rs pages from)
found-from ps rs pages from ar page start = found-at ps rs pages (max from first_chosen) (gap_from pages (max from first_chosen) ps) (start-among ps rs from start) (next_gap ps pages from ar page)

found-lesser : (ps : List Piece) (rs : List HostRange) (pages : ℕ) (a b : Option ℕ) → Found ps rs pages a → Found ps rs pages b → Found ps rs pages (lesser_of a b)
found-lesser ps rs pages None b fa fb = fb
found-lesser ps rs pages (Some n) None fa fb = fa
found-lesser ps rs pages (Some n) (Some m) fa fb = elim (cases_lt n m) [
  | inl lt ↦ let same : min n m ≡ n = omega (arith, lt) in rw same fa
  | inr ge ↦ let same : min n m ≡ m = omega (arith, ge) in rw same fb
]

-- something at or below an address was found
abbrev reaches : Option ℕ → ℕ → Bool
reaches None g = false
reaches (Some b) g = nat_le b g

reaches-first : (a b : Option ℕ) (g : ℕ) → reaches a g ≡ true → reaches (lesser_of a b) g ≡ true
reaches-first None b g h = absurd (both_ways false refl h)
reaches-first (Some n) None g h = h
reaches-first (Some n) (Some m) g h = grind (arith, common_steps, h)

reaches-second : (a b : Option ℕ) (g : ℕ) → reaches b g ≡ true → reaches (lesser_of a b) g ≡ true
reaches-second None b g h = h
reaches-second (Some n) None g h = absurd (both_ways false refl h)
reaches-second (Some n) (Some m) g h = grind (arith, common_steps, h)

-- the highest end of a range at or below an address
abbrev top : ℕ → List HostRange → ℕ
top x [] = 0
top x (r ∷ rs) = if nat_le r.to x then max r.to (top x rs) else top x rs

top-low : (x : ℕ) (rs : List HostRange) → top x rs ≤ x
top-low x [] = omega arith
top-low x (r ∷ rs) = let rest = top-low x rs in grind (arith, common_steps, rest)

-- a gap from the highest end on and at or below a free gap meets no range
clear : (x g size : ℕ) (rs : List HostRange) → is_reserved rs x (x + size) ≡ false → g ≤ x → top x rs ≤ g → is_reserved rs g (g + size) ≡ false
clear x g size [] none le up = refl
clear x g size (r ∷ rs) none le up = elim (cases_lt x r.to) [
  | inl high ↦
      let over : nat_le r.to x ≡ false = lt-leb r.to x high in
      let rest : top x rs ≤ g = rw over at up in
      grind (arith, common_steps, none, le, high, clear x g size rs)
  | inr low ↦
      let under : nat_le r.to x ≡ true = le-leb r.to x low in
      let both : max r.to (top x rs) ≤ g = rw under at up in
      let rest : top x rs ≤ g = omega (arith, both) in
      let own : r.to ≤ g = omega (arith, both) in
      grind (arith, common_steps, none, le, own, clear x g size rs)
]

gap-parts : (ps : List Piece) (rs : List HostRange) (pages x : ℕ) → (is_gap ps pages x && not (is_reserved rs x (x + 4096 * pages))) ≡ true
    → (is_gap ps pages x ≡ true) × (is_reserved rs x (x + 4096 * pages) ≡ false)
gap-parts ps rs pages x free = elim (cases_Bool (is_gap ps pages x)) [
  | inl gap ↦ (gap, elim (cases_Bool (is_reserved rs x (x + 4096 * pages))) [ inl h ↦ absurd (both_ways false refl (rw (gap, h) at free)) | inr h ↦ h ])
  | inr none ↦ absurd (both_ways false refl (rw none at free))
]

free-parts : (ps : List Piece) (rs : List HostRange) (pages x : ℕ) → is_free_gap ps rs pages x ≡ true → (is_gap ps pages x ≡ true) × (is_reserved rs x (x + 4096 * pages) ≡ false)
free-parts ps rs pages x free = elim (cases_Bool (x % 4096 == 0)) [
  | inl page ↦ gap-parts ps rs pages x (rw page at free)
  | inr off ↦ absurd (both_ways false refl (rw off at free))
]

reaches-at : (ps : List Piece) (rs : List HostRange) (pages c x : ℕ) (o : Option ℕ) → is_free_gap ps rs pages x ≡ true → c ≤ x → top x rs ≤ c → NextGap ps ps pages c c o
    → reaches (unless_reserved rs pages o) x ≡ true
reaches-at ps rs pages c x None free le up h = absurd (both_ways (is_gap ps pages x) (h x le) (free-parts ps rs pages x free).0)
reaches-at ps rs pages c x (Some g) free le up h =
    let f = free-parts ps rs pages x free in
    let low : g ≤ x = h.least x le f.0 in
    let above : c ≤ g = h.above in
    rw (clear x g (4096 * pages) rs f.1 low (omega (arith, above, up))) (le-leb g x low)

reaches-from : (ps : List Piece) (rs : List HostRange) (pages x : ℕ) → Arranged lowest_address ps → top x rs % 4096 ≡ 0 → is_free_gap ps rs pages x ≡ true
    → reaches (free_from ps rs pages (top x rs)) x ≡ true
reaches-from ps rs pages x ar page free =
    let low = low_gap ps pages x (free-parts ps rs pages x free).0 (cases_lt x first_chosen) in
    reaches-at ps rs pages (max (top x rs) first_chosen) x (gap_from pages (max (top x rs) first_chosen) ps) free (omega (arith, low, top-low x rs)) (omega arith) (next_gap ps pages (top x rs) ar page)

-- the least of those found from the ends of the ranges
abbrev ends : List Piece → List HostRange → ℕ → List HostRange → Option ℕ
ends ps rs pages [] = None
ends ps rs pages (q ∷ qs) = lesser_of (free_from ps rs pages q.to) (ends ps rs pages qs)

ends-are : (ps : List Piece) (rs : List HostRange) (pages pid : ℕ) (qs : List HostRange) → free_from_ends ps rs pages pid qs ≡ ends ps rs pages (ranges_of pid qs)
ends-are ps rs pages pid [] = refl
ends-are ps rs pages pid (q ∷ qs) = elim (cases_Bool (q.pid == pid)) [
  | inl own ↦ rw (own, ends-are ps rs pages pid qs) refl
  | inr other ↦ rw (other, ends-are ps rs pages pid qs) refl
]

abbrev ArePages : List HostRange → Type 0
ArePages rs = All (λ (r : HostRange). r.to % 4096 ≡ 0) rs

found-ends : (ps : List Piece) (rs : List HostRange) (pages : ℕ) (qs : List HostRange) → Arranged lowest_address ps → ArePages qs
    → ((e : ℕ) → Among e (map (λ (r : HostRange). r.to) qs) → Among e (map (λ (r : HostRange). r.to) rs)) → Found ps rs pages (ends ps rs pages qs)
found-ends ps rs pages [] ar all within = tt
found-ends ps rs pages (q ∷ qs) ar all within =
    found-lesser ps rs pages (free_from ps rs pages q.to) (ends ps rs pages qs)
    (found-from ps rs pages q.to ar (All-head (λ (r : HostRange). r.to % 4096 ≡ 0) q qs all) (inr (within q.to (inl refl))))
    (found-ends ps rs pages qs ar (All-tail (λ (r : HostRange). r.to % 4096 ≡ 0) q qs all) (λ e among. within e (inr among)))

abbrev search_all : List Piece → List HostRange → ℕ → List HostRange → Option ℕ
search_all ps rs pages qs = lesser_of (free_from ps rs pages 0) (ends ps rs pages qs)

-- what the first search or the later ones find is found with one more search between
reaches-between : (a b d : Option ℕ) (g : ℕ) → reaches (lesser_of a d) g ≡ true → reaches (lesser_of a (lesser_of b d)) g ≡ true
reaches-between None b d g h = reaches-second b d g h
reaches-between (Some n) None d g h = h
reaches-between (Some n) (Some m) None g h = grind (arith, common_steps, h)
reaches-between (Some n) (Some m) (Some k) g h = grind (arith, common_steps, h)

-- the search from the highest end is one of those that are made
reaches-top : (ps : List Piece) (rs : List HostRange) (pages x : ℕ) (qs : List HostRange) → reaches (free_from ps rs pages (top x qs)) x ≡ true → reaches (search_all ps rs pages qs) x ≡ true
reaches-top ps rs pages x [] h = reaches-first (free_from ps rs pages 0) None x h
reaches-top ps rs pages x (q ∷ qs) h = elim (cases_lt x q.to) [
  | inl high ↦
      reaches-between (free_from ps rs pages 0) (free_from ps rs pages q.to) (ends ps rs pages qs) x
      (reaches-top ps rs pages x qs (rw (lt-leb q.to x high) at h))
  | inr low ↦
      let under : nat_le q.to x ≡ true = le-leb q.to x low in
      elim (cases_lt q.to (top x qs)) [
        | inl over ↦
            let same : max q.to (top x qs) ≡ top x qs = omega (arith, over) in
            reaches-between (free_from ps rs pages 0) (free_from ps rs pages q.to) (ends ps rs pages qs) x
            (reaches-top ps rs pages x qs (rw (under, same) at h))
        | inr own ↦
            let same : max q.to (top x qs) ≡ q.to = omega (arith, own) in
            reaches-second (free_from ps rs pages 0) (ends ps rs pages (q ∷ qs)) x
            (reaches-first (free_from ps rs pages q.to) (ends ps rs pages qs) x (rw (under, same) at h))
      ]
]

top-page : (x : ℕ) (rs : List HostRange) → ArePages rs → top x rs % 4096 ≡ 0
top-page x [] all = refl
top-page x (r ∷ rs) all =
    let own : r.to % 4096 ≡ 0 = All-head (λ (r : HostRange). r.to % 4096 ≡ 0) r rs all in
    let rest = top-page x rs (All-tail (λ (r : HostRange). r.to % 4096 ≡ 0) r rs all) in
    elim (cases_lt x r.to) [
      | inl high ↦ rw (lt-leb r.to x high) rest
      | inr low ↦ rw (le-leb r.to x low) (elim (cases_lt r.to (top x rs)) [
        | inl over ↦ let same : max r.to (top x rs) ≡ top x rs = omega (arith, over) in rw same rest
        | inr under ↦ let same : max r.to (top x rs) ≡ r.to = omega (arith, under) in rw same own
      ])
    ]

-- the address that the definition chooses, which is the least free gap
pub record IsChosen (ps : List Piece) (rs : List HostRange) (pages : ℕ) (o : Option ℕ) : Type 0 where
  pub value : o ≡ choose_beside ps rs pages
  pub law : MatchOption o (HasNoFreeGap ps rs pages) (λ base. IsLeastFreeGap ps rs pages base)

chosen-by : (ps : List Piece) (rs : List HostRange) (pages : ℕ) (o : Option ℕ) → Found ps rs pages o → ((x : ℕ) → is_free_gap ps rs pages x ≡ true → reaches o x ≡ true)
    → IsChosen ps rs pages o
chosen-by ps rs pages None found reach =
    let none = λ (x : ℕ). false_from_ne_true (is_free_gap ps rs pages x) (λ h. both_ways false refl (reach x h)) in
    record { value = sym (least-none (is_free_gap ps rs pages) (starts ps rs) none); law = none }
chosen-by ps rs pages (Some b) found reach =
    let low = λ (x : ℕ) (h : is_free_gap ps rs pages x ≡ true). leb-true b x (reach x h) in
    record {
      value = sym (least-is (is_free_gap ps rs pages) b (starts ps rs) found.free low found.among);
      law = record { gap = found.free; aligned = found.aligned; least = low };
    }

-- all searches together
chosen_all : (ps : List Piece) (rs : List HostRange) (pages : ℕ) → Arranged lowest_address ps → ArePages rs
    → IsChosen ps rs pages (lesser_of (free_from ps rs pages 0) (ends ps rs pages rs))
chosen_all ps rs pages ar all =
    chosen-by ps rs pages (search_all ps rs pages rs)
    (found-lesser ps rs pages (free_from ps rs pages 0) (ends ps rs pages rs)
    (found-from ps rs pages 0 ar refl (inl refl))
    (found-ends ps rs pages rs ar all (λ e among. among)))
    (λ x free. reaches-top ps rs pages x rs (reaches-from ps rs pages x ar (top-page x rs all) free))

-- if the first search finds something, it is the least
first-reaches : (ps : List Piece) (rs : List HostRange) (pages c x b : ℕ) (o : Option ℕ) → unless_reserved rs pages o ≡ Some b → is_gap ps pages x ≡ true → c ≤ x → NextGap ps ps pages c c o
    → reaches (Some b) x ≡ true
first-reaches ps rs pages c x b None is gap le h = absurd (none-some b is)
first-reaches ps rs pages c x b (Some g) is gap le h = elim (cases_Bool (is_reserved rs g (g + 4096 * pages))) [
  | inl taken ↦ absurd (none-some b (rw taken at is))
  | inr free ↦ let same : Some g ≡ Some b = rw free at is in subst (λ o. reaches o x ≡ true) same (le-leb g x (h.least x le gap))
]

chosen_first : (ps : List Piece) (rs : List HostRange) (pages b : ℕ) → Arranged lowest_address ps → free_from ps rs pages 0 ≡ Some b → IsChosen ps rs pages (Some b)
chosen_first ps rs pages b ar is =
    chosen-by ps rs pages (Some b) (rw is at (found-from ps rs pages 0 ar refl (inl refl)))
    (λ x free.
    let gap = (free-parts ps rs pages x free).0 in
    first-reaches ps rs pages first_chosen x b (gap_from pages first_chosen ps) is gap (low_gap ps pages x gap (cases_lt x first_chosen)) (next_gap ps pages 0 ar refl))

pub chosen_early : (ps : List Piece) (rs : List HostRange) (pages : ℕ) (o : Option ℕ) → Arranged lowest_address ps → o ≡ free_from ps rs pages 0 → is_some o ≡ true → IsChosen ps rs pages o
chosen_early ps rs pages None ar is some = absurd (both_ways false refl some)
chosen_early ps rs pages (Some b) ar is some = chosen_first ps rs pages b ar (sym is)

-- THE LOOP OVER THE RANGES

range-page : (r : HostRange) → is_range r ≡ true → (r.to % 4096 ≡ 0) × (r.to ≤ end_address)
range-page r h = (grind (arith, common_steps, h), grind (arith, common_steps, h))

all-pages : (rs : List HostRange) → AreRanges rs → ArePages rs
all-pages [] all = All-nil (λ (r : HostRange). r.to % 4096 ≡ 0)
all-pages (r ∷ rs) all =
    All-cons (λ (r : HostRange). r.to % 4096 ≡ 0) r rs (range-page r (All-head (λ (r : HostRange). is_range r ≡ true) r rs all)).0
    (all-pages rs (All-tail (λ (r : HostRange). is_range r ≡ true) r rs all))

chosen_last : (ps : List Piece) (all : List HostRange) (pages pid : ℕ) → Arranged lowest_address ps → AreRanges all
    → IsChosen ps (ranges_of pid all) pages (lesser_of (free_from ps (ranges_of pid all) pages 0) (free_from_ends ps (ranges_of pid all) pages pid all))
chosen_last ps all pages pid ar ranges =
    rw (ends-are ps (ranges_of pid all) pages pid all)
    (chosen_all ps (ranges_of pid all) pages ar (all-pages (ranges_of pid all) (All-filter (λ (r : HostRange). r.pid == pid) (λ (r : HostRange). is_range r ≡ true) all ranges)))

lesser-none : (a : Option ℕ) → lesser_of a None ≡ a
lesser-none None = refl
lesser-none (Some n) = refl

pub chosen_end : (ps : List Piece) (all : List HostRange) (pages pid n : ℕ) (best : Option ℕ) → Arranged lowest_address ps → AreRanges all → length all ≤ n
    → lesser_of best (free_from_ends ps (ranges_of pid all) pages pid (drop n all)) ≡ lesser_of (free_from ps (ranges_of pid all) pages 0) (free_from_ends ps (ranges_of pid all) pages pid all)
    → IsChosen ps (ranges_of pid all) pages best
chosen_end ps all pages pid n best ar ranges done kept =
    let last = ap (λ qs. lesser_of best (free_from_ends ps (ranges_of pid all) pages pid qs)) (drop_of_length-le all done) in
    subst (λ o. IsChosen ps (ranges_of pid all) pages o) (sym kept ∙ last ∙ lesser-none best) (chosen_last ps all pages pid ar ranges)

-- NO RANGE IS RESERVED

unless-none : (pages : ℕ) (o : Option ℕ) → unless_reserved [] pages o ≡ o
unless-none pages None = refl
unless-none pages (Some b) = refl

pub chosen_alone : (ps : List Piece) (pages : ℕ) → Arranged lowest_address ps → gap_from pages first_chosen ps ≡ choose_beside ps [] pages
chosen_alone ps pages ar =
    sym (unless-none pages (gap_from pages first_chosen ps))
    ∙ sym (lesser-none (free_from ps [] pages 0))
    ∙ (chosen_all ps [] pages ar (All-nil (λ (r : HostRange). r.to % 4096 ≡ 0))).value
