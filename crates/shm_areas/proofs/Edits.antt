-- Pieces stay in order through an insertion, a cut and a detach.
use Rattle.shm_areas.proofs.Names.{◌≡◌, ℕ, zero, suc, ◌+◌, ◌-◌, ◌*◌, ◌/◌, ◌%◌, ◌<◌, ◌≤◌, ◌⊎◌, inl, inr, Bool, false, nat_lt, List, [], ◌∷◌, ◌++◌, length, get_or, filter, insert, refl, ap, arith, common_steps, lt-ltb, le-ltb, cases_Bool, or_parts, both_ways, end_of, meets, occupied, inserted, cut, parts, part_below, part_above, without_named, end_address, Piece, bare, bare_all, IsFit, Arranged, stored_inserted, stored_below, stored_above, stored_parts, stored_cut, stored_without, All, ⊤, All-cons, All-nil, All-weaker}
use Rattle.shm_base.specs.State as flat

-- whole pages of the addresses
pub record IsWhole (p : flat.Piece) : Type 0 where
  pub aligned : p.base % 4096 ≡ 0
  pub some : 1 ≤ p.pages
  pub within : end_of p ≤ end_address

-- pieces of one kind in order, as `Arranged` says it of the fit ones
abbrev pub ArrangedBy : (flat.Piece → Type 0) → ℕ → List flat.Piece → Type 0
ArrangedBy Kind low [] = ⊤
ArrangedBy Kind low (p ∷ ps) = (low ≤ p.base) × (Kind p × ArrangedBy Kind (end_of p) ps)

-- such pieces are whole, and a part of one is one
pub record IsKind (Kind : flat.Piece → Type 0) : Type 0 where
  pub whole : (p : flat.Piece) → Kind p → IsWhole p
  pub part : (p q : flat.Piece) → Kind p → IsWhole q → q.first_page + q.pages ≤ p.first_page + p.pages → Kind q

pub whole_kind : IsKind IsWhole
whole_kind = record { whole = λ p is. is; part = λ p q is whole le. whole }

pub fit_kind : IsKind IsFit
fit_kind = record { whole = λ p fit. grind arith; part = λ p q fit whole le. grind arith }

pub bare_inserted : (p : Piece) (qs : List Piece) → bare_all (stored_inserted p qs) ≡ inserted (bare p) (bare_all qs)
bare_inserted p [] = refl
bare_inserted p (q ∷ qs) = grind (arith, common_steps, bare_inserted p qs)

pub length_inserted : (p : Piece) (qs : List Piece) → length (stored_inserted p qs) ≡ length qs + 1
length_inserted p [] = refl
length_inserted p (q ∷ qs) = grind (arith, length_inserted p qs)

-- the index of an insertion
pub inserted_at : (p : Piece) (qs : List Piece) (n : ℕ) → n ≤ length qs
    → ((k : ℕ) (d : Piece) → k < n → (get_or qs k d).base ≤ p.base)
    → ((k : ℕ) (d : Piece) → n ≤ k → k < length qs → p.base < (get_or qs k d).base)
    → stored_inserted p qs ≡ insert qs n p
inserted_at p [] zero le below above = refl
inserted_at p [] (suc n) le below above = absurd (omega arith)
inserted_at p (q ∷ qs) zero le below above =
    let lt : p.base < q.base = above 0 p (omega arith) (omega arith) in rw (lt-ltb p.base q.base lt) refl
inserted_at p (q ∷ qs) (suc n) le below above =
    let first : q.base ≤ p.base = below 0 p (omega arith) in
    rw (le-ltb p.base q.base first)
    (ap (λ (xs : List Piece). q ∷ xs)
    (inserted_at p qs n (omega arith) (λ k d l. below (suc k) d (omega arith)) (λ k d g l. above (suc k) d (omega arith) (omega arith))))

pub bare_filter : (addr seg : ℕ) (ps : List Piece) → bare_all (stored_without addr seg ps) ≡ without_named addr seg (bare_all ps)
bare_filter addr seg [] = refl
bare_filter addr seg (p ∷ ps) = grind (arith, common_steps, bare_filter addr seg ps)

pub bare_append : (xs ys : List Piece) → bare_all (xs ++ ys) ≡ bare_all xs ++ bare_all ys
bare_append [] ys = refl
bare_append (x ∷ xs) ys = ap (λ (zs : List flat.Piece). bare x ∷ zs) (bare_append xs ys)

pub bare_below : (from : ℕ) (p : Piece) → bare_all (stored_below from p) ≡ part_below from (bare p)
bare_below from p = elim (cases_Bool (nat_lt p.base from)) [ inl h ↦ rw h refl | inr h ↦ rw h refl ]

pub bare_above : (to : ℕ) (p : Piece) → bare_all (stored_above to p) ≡ part_above to (bare p)
bare_above to p = elim (cases_Bool (nat_lt to (end_of (bare p)))) [ inl h ↦ rw h refl | inr h ↦ rw h refl ]

pub bare_parts : (from to : ℕ) (p : Piece) → bare_all (stored_parts from to p) ≡ parts from to (bare p)
bare_parts from to p = grind (arith, common_steps, bare_append, bare_below, bare_above)

pub bare_cut : (from to : ℕ) (ps : List Piece) → bare_all (stored_cut from to ps) ≡ cut from to (bare_all ps)
bare_cut from to [] = refl
bare_cut from to (p ∷ ps) = rw (bare_append, bare_parts, bare_cut from to ps) refl

-- an address inside a piece cuts it at whole pages
whole : (a b : ℕ) → a % 4096 ≡ 0 → b % 4096 ≡ 0 → a ≤ b → a + 4096 * ((b - a) / 4096) ≡ b
whole a b ea eb le = omega (arith, ea, eb, le)

abbrev upto : ℕ → flat.Piece → flat.Piece
upto from p = record p { pages = (from - p.base) / 4096 }

abbrev beyond : ℕ → flat.Piece → flat.Piece
beyond to p = record p { base = to; first_page = p.first_page + (to - p.base) / 4096; pages = (end_of p - to) / 4096 }

whole_upto : (from : ℕ) (p : flat.Piece) → IsWhole p → from % 4096 ≡ 0 → p.base < from → from ≤ end_of p → IsWhole (upto from p)
whole_upto from p is e lt le = grind (arith, common_steps, whole)

whole_beyond : (to : ℕ) (p : flat.Piece) → IsWhole p → to % 4096 ≡ 0 → p.base ≤ to → to < end_of p → IsWhole (beyond to p)
whole_beyond to p is e le lt = grind (arith, common_steps, whole)

pub end_upto : (from : ℕ) (p : flat.Piece) → p.base % 4096 ≡ 0 → from % 4096 ≡ 0 → p.base < from → end_of (upto from p) ≡ from
end_upto from p page e lt = whole p.base from page e (omega (arith, lt))

end_beyond : (to : ℕ) (p : flat.Piece) → p.base % 4096 ≡ 0 → to % 4096 ≡ 0 → to < end_of p → end_of (beyond to p) ≡ end_of p
end_beyond to p page e lt = grind (arith, common_steps, whole)

-- WHAT STAYS IN ORDER

module _ (Kind : flat.Piece → Type 0) where
  pub lower_by : (low low' : ℕ) (ps : List flat.Piece) → low ≤ low' → ArrangedBy Kind low' ps → ArrangedBy Kind low ps
  lower_by low low' [] le ar = ar
  lower_by low low' (p ∷ ps) le ar = let first : low' ≤ p.base = ar.0 in (omega (arith, first, le), ar.1)

  pub some_by : (f : flat.Piece → Bool) (low : ℕ) (ps : List flat.Piece) → ArrangedBy Kind low ps → ArrangedBy Kind low (filter f ps)
  some_by f low [] ar = ar
  some_by f low (p ∷ ps) ar = grind (arith, common_steps, lower_by, some_by f (end_of p) ps ar.1.1)

  -- each begins at or above where they may begin, and is of their kind
  pub all_above : (low : ℕ) (ps : List flat.Piece) → ArrangedBy Kind low ps → All (λ (q : flat.Piece). low ≤ q.base) ps
  all_above low [] ar = All-nil (λ (q : flat.Piece). low ≤ q.base)
  all_above low (p ∷ ps) ar =
      All-cons (λ (q : flat.Piece). low ≤ q.base) p ps ar.0
      (All-weaker (λ (q : flat.Piece). end_of p ≤ q.base) (λ (q : flat.Piece). low ≤ q.base) (λ q h. omega (arith, ar.0, h)) ps (all_above (end_of p) ps ar.1.1))

  pub all_kind : (low : ℕ) (ps : List flat.Piece) → ArrangedBy Kind low ps → All Kind ps
  all_kind low [] ar = All-nil Kind
  all_kind low (p ∷ ps) ar = All-cons Kind p ps ar.1.0 (all_kind (end_of p) ps ar.1.1)

module _ (Kind : flat.Piece → Type 0) (kind : IsKind Kind) where
  -- a piece that meets no other can be inserted
  apart : (p q : flat.Piece) → Kind p → Kind q → meets q.base (end_of q) p ≡ false → (end_of q ≤ p.base) ⊎ (end_of p ≤ q.base)
  apart p q kp kq away = let own = (kind.whole p kp).some in let other = (kind.whole q kq).some in grind (arith, common_steps, both_ways)

  pub inserted_by : (low : ℕ) (q : flat.Piece) (ps : List flat.Piece) → ArrangedBy Kind low ps → low ≤ q.base → Kind q → occupied ps q.base (end_of q) ≡ false
      → ArrangedBy Kind low (inserted q ps)
  inserted_by low q [] ar le own free = (le, (own, tt))
  inserted_by low q (p ∷ ps) ar le own free = grind (arith, common_steps, or_parts, apart, inserted_by (end_of p) q ps ar.1.1)

  kind_upto : (from : ℕ) (p : flat.Piece) → Kind p → from % 4096 ≡ 0 → p.base < from → from ≤ end_of p → Kind (upto from p)
  kind_upto from p own e lt le = kind.part p (upto from p) own (whole_upto from p (kind.whole p own) e lt le) (omega (arith, le))

  kind_beyond : (to : ℕ) (p : flat.Piece) → Kind p → to % 4096 ≡ 0 → p.base ≤ to → to < end_of p → Kind (beyond to p)
  kind_beyond to p own e le lt =
      kind.part p (beyond to p) own (whole_beyond to p (kind.whole p own) e le lt) (omega (arith, (kind.whole p own).aligned, e, le, lt))

  parts_by : (low from to : ℕ) (p : flat.Piece) (rest : List flat.Piece) → low ≤ p.base → Kind p → from % 4096 ≡ 0 → to % 4096 ≡ 0 → from ≤ to
      → ArrangedBy Kind (end_of p) rest → ArrangedBy Kind low (parts from to p ++ rest)
  parts_by low from to p rest first own ef et le ar =
      let is = kind.whole p own in grind (arith, common_steps, is, kind_upto, end_upto, kind_beyond, end_beyond, lower_by Kind)

  pub cut_by : (low from to : ℕ) (ps : List flat.Piece) → ArrangedBy Kind low ps → from % 4096 ≡ 0 → to % 4096 ≡ 0 → from ≤ to → ArrangedBy Kind low (cut from to ps)
  cut_by low from to [] ar ef et le = ar
  cut_by low from to (p ∷ ps) ar ef et le = grind (arith, common_steps, parts_by, cut_by (end_of p) from to ps ar.1.1 ef et le)

-- THE FIT PIECES

pub whole_fit : (low : ℕ) (ps : List flat.Piece) → Arranged low ps → ArrangedBy IsWhole low ps
whole_fit low [] ar = ar
whole_fit low (p ∷ ps) ar = (ar.0, (fit_kind.whole p ar.1.0, whole_fit (end_of p) ps ar.1.1))

pub lower : (low low' : ℕ) (ps : List flat.Piece) → low ≤ low' → Arranged low' ps → Arranged low ps
lower = lower_by IsFit

pub arranged_inserted : (low : ℕ) (q : flat.Piece) (ps : List flat.Piece) → Arranged low ps → low ≤ q.base → IsFit q → occupied ps q.base (end_of q) ≡ false
    → Arranged low (inserted q ps)
arranged_inserted = inserted_by IsFit fit_kind

pub arranged_cut : (low from to : ℕ) (ps : List flat.Piece) → Arranged low ps → from % 4096 ≡ 0 → to % 4096 ≡ 0 → from ≤ to → Arranged low (cut from to ps)
arranged_cut = cut_by IsFit fit_kind

pub arranged_filter : (f : Piece → Bool) (low : ℕ) (ps : List Piece) → Arranged low (bare_all ps) → Arranged low (bare_all (filter f ps))
arranged_filter f low [] ar = ar
arranged_filter f low (p ∷ ps) ar = grind (arith, common_steps, lower, arranged_filter f (end_of (bare p)) ps ar.1.1)
