-- Pieces whose pages are there, through the changes that calls make to them.
use Rattle.shm_life.proofs.Names.{Bool, false, if◌then◌else◌, refl, ◌≡◌, ℕ, zero, suc, ◌+◌, ◌-◌, ◌/◌, ◌<◌, true, not, nat_lt, List, [], ◌∷◌, length, get_or, Some, ap, ◌∙◌, arith, All-nil, All-filter, common_steps, All, Piece, Entry, Runner, end_of, meets, part_above, parts, cut, is_named, without_named, live, pages_at, SamePages, PieceFits, PiecesFit, slice_get, slice_set, all-cut, is_some}
pub use Rattle.std.proofs.lemmas.List.Elements.{All-cons as all-cons, All-head as all-head, All-tail as all-tail}

-- ALL OF A LIST

module _ {X : Type 0} (P : X → Type 0) where
  pub all-slice_set : (xs : List X) (i : ℕ) (y : X) → All P xs → P y → All P (slice_set xs i y)
  all-slice_set [] i y ps p = ps
  all-slice_set (x ∷ xs) zero y ps p = all-cons P y xs p (all-tail P x xs ps)
  all-slice_set (x ∷ xs) (suc i) y ps p = all-cons P x (slice_set xs i y) (all-head P x xs ps) (all-slice_set xs i y (all-tail P x xs ps) p)

  pub all-at : (xs : List X) (i : ℕ) (x : X) → All P xs → slice_get xs i ≡ Some x → P x
  all-at [] i x ps is = absurd (cc is)
  all-at (y ∷ ys) zero x ps is = let same : y ≡ x = cc in rw same at (all-head P y ys ps)
  all-at (y ∷ ys) (suc i) x ps is = all-at ys i x (all-tail P y ys ps) is

-- PIECES

pub all-if : {X : Type 0} (P : X → Type 0) (b : Bool) (x : X) → (b ≡ true → P x) → All P (if b then x ∷ [] else [])
all-if P true x h = all-cons P x [] (h refl) (All-nil P)
all-if P false x h = All-nil P

module _ (table : List Entry) where
  above-passes : (from to : ℕ) (p : Piece) → meets from to p ≡ true → PieceFits table p → All (PieceFits table) (part_above to p)
  above-passes from to p m h =
      let before : p.base < to = grind (arith, common_steps, m) in
      let skipped = (to - p.base) / 4096 in
      all-if (PieceFits table) (nat_lt to (end_of p)) (record p { base = to; first_page = p.first_page + skipped; pages = (end_of p - to) / 4096 }) (λ e. (
        h.0,
        λ j lt.
            let within : to < end_of p = grind (arith, common_steps, e) in
            let more : p.first_page + skipped + j ≡ p.first_page + (skipped + j) = omega arith in
            rw more (h.1 (skipped + j) (omega (arith, lt, within, before))),
      ))

  parts-pass : (from to : ℕ) (p : Piece) → PieceFits table p → All (PieceFits table) (parts from to p)
  parts-pass from to p h = grind (arith, above-passes)

  pub pass-cut : (from to : ℕ) (ps : List Piece) → All (PieceFits table) ps → All (PieceFits table) (cut from to ps)
  pass-cut from to ps all = all-cut (PieceFits table) from to (parts-pass from to) ps all

  pub pass-without : (addr seg : ℕ) (ps : List Piece) → All (PieceFits table) ps → All (PieceFits table) (without_named addr seg ps)
  pass-without addr seg ps h = All-filter (λ p. not (is_named addr seg p)) (PieceFits table) ps h

-- PROCESSES

abbrev pub RunnerFits : List Entry → Runner → Type 0
RunnerFits table r = All (PieceFits table) r.pieces

-- one process changed
pub fit-set : (table : List Entry) (rs : List Runner) (i : ℕ) (r : Runner) → PiecesFit table rs → RunnerFits table r → PiecesFit table (slice_set rs i r)
fit-set table rs i r fit own = all-slice_set (RunnerFits table) rs i r fit own

-- another table, in which no segment that pieces name lost anything
pub fit-table : (t u : List Entry) (rs : List Runner) → ((k : ℕ) (d : Runner) (i : ℕ) (e : Piece) → k < length rs → i < length (get_or rs k d).pieces → PieceFits t (get_or (get_or rs k d).pieces i e) → PieceFits u (get_or (get_or rs k d).pieces i e))
    → PiecesFit t rs → PiecesFit u rs
fit-table t u rs more fit = λ k d lt. λ i e li. more k d i e lt li (fit k d lt i e li)

pub piece-same : (t u : List Entry) (p : Piece) → ((id : ℕ) → is_some (live u id) ≡ is_some (live t id)) → ((id : ℕ) → pages_at u id ≡ pages_at t id) → PieceFits t p → PieceFits u p
piece-same t u p there pages h = (there p.seg ∙ h.0, λ j lt. ap (λ n. nat_lt (p.first_page + j) n) (pages p.seg) ∙ h.1 j lt)

-- a table in which the same segments are live, with the same numbers of pages
pub fit-same : (t u : List Entry) (rs : List Runner) → SamePages t u → PiecesFit t rs → PiecesFit u rs
fit-same t u rs same fit = fit-table t u rs (λ k d i e lt li h. piece-same t u (get_or (get_or rs k d).pieces i e) same.there same.pages h) fit
