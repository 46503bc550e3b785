-- No other segment with a segment's index is attached, if no piece names one.
use Rattle.shm_attach.proofs.Names.{◌≡◌, ◌≢◌, ℕ, ◌%◌, List, [], ◌∷◌, refl, sym, ap, ◌∙◌, arith, ne_eqb, All, All-head, All-tail, pieces_of, attach_count, some_if, sum_by-cons, IsOnlyAt}
use Rattle.shm_base.specs.State as flat
use Rattle.shm_attach.proofs.Processes.{one_more}

module _ (P : flat.Piece → Type 0) (seg : ℕ) (one : (p : flat.Piece) → P p → p.seg % 32768 ≡ seg % 32768 → p.seg ≡ seg) where
  unnamed : (id : ℕ) (ps : List flat.Piece) → id % 32768 ≡ seg % 32768 → id ≢ seg → All P ps → pieces_of id ps ≡ 0
  unnamed id [] same ne all = refl
  unnamed id (p ∷ ps) same ne all =
      let apart : p.seg ≢ id = λ is. ne (sym is ∙ one p (All-head P p ps all) (ap (λ (n : ℕ). n % 32768) is ∙ same)) in
      let none : some_if id p.seg 1 ≡ 0 = rw (ne_eqb p.seg id apart) refl in
      omega (arith, one_more id p ps, none, unnamed id ps same ne (All-tail P p ps all))

  pub only-at : (rs : List flat.Runner) → All (λ (r : flat.Runner). All P r.pieces) rs → IsOnlyAt seg (attach_count rs)
  only-at [] all id same ne = refl
  only-at (r ∷ rs) all id same ne =
      let here = unnamed id r.pieces same ne (All-head (λ (r : flat.Runner). All P r.pieces) r rs all) in
      let rest = only-at rs (All-tail (λ (r : flat.Runner). All P r.pieces) r rs all) id same ne in
      sum_by-cons (λ (r : flat.Runner). pieces_of id r.pieces) r rs ∙ omega (arith, here, rest)
