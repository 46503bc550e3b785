-- The first address whose page has no frame, when one page serves several addresses.
use Rattle.shm_attach.proofs.Names.{◌≡◌, ℕ, zero, suc, ◌+◌, ◌/◌, ◌%◌, ◌<◌, ◌≤◌, Bool, true, false, List, Option, Some, None, refl, arith, All, Slab, get, covering, place_covering, bare, IsCovering, Stored, TableView, HasTable, AllTrue, frame_in, size_in, is_some, place_by, first_absent}
use Rattle.shm_base.specs.State.{Piece}
use Rattle.shm_attach.proofs.HavingTables.{frame-true, table-of}

module _ (frame : ℕ → ℕ → Option ℕ) (ps : List Piece) where
  -- an address without a piece
  pub absent-none : (a n : ℕ) → covering a ps ≡ None → first_absent frame ps a n ≡ None
  absent-none a zero none = refl
  absent-none a (suc n) none = rw (place_covering a ps, none) refl

  -- an address whose page has no frame
  pub absent-here : (p : Piece) (a n : ℕ) → 1 ≤ n → covering a ps ≡ Some p → is_some (frame p.seg ((place_by p a).at / 4096)) ≡ false → first_absent frame ps a n ≡ Some a
  absent-here p a zero some found none = absurd (omega arith)
  absent-here p a (suc n) some found none = rw (place_covering a ps, found, none) refl

  -- addresses whose page has one
  pub absent-served : (p : Piece) (page a n m : ℕ) → is_some (frame p.seg page) ≡ true
      → ((b : ℕ) → a ≤ b → b < a + n → covering b ps ≡ Some p) → ((b : ℕ) → a ≤ b → b < a + n → (place_by p b).at / 4096 ≡ page)
      → first_absent frame ps a (n + m) ≡ first_absent frame ps (a + n) m
  absent-served p page a zero m there all same = let here : a + 0 ≡ a = omega arith in let rest : 0 + m ≡ m = omega arith in rw (here, rest) refl
  absent-served p page a (suc n) m there all same =
      let more : suc n + m ≡ suc (n + m) = omega arith in
      let next : a + suc n ≡ (a + 1) + n = omega arith in
      let own = all a (omega arith) (omega arith) in
      let at = same a (omega arith) (omega arith) in
      rw (more, next, place_covering a ps, own, at, there)
      (absent-served p page (a + 1) n m there (λ b from to. all b (omega (arith, from)) (omega (arith, to))) (λ b from to. same b (omega (arith, from)) (omega (arith, to))))

-- the addresses of a page denote bytes of one page
pub same_page : (p : Piece) (a b n : ℕ) → p.base % 4096 ≡ 0 → p.base ≤ a → a % 4096 + n ≤ 4096 → a ≤ b → b < a + n → (place_by p b).at / 4096 ≡ (place_by p a).at / 4096
same_page p a b n aligned from page le lt = omega (arith, aligned, from, page, le, lt)

-- the frame that is kept for the page of an address is that of the page
pub own-frame : (frame : ℕ → ℕ → Option ℕ) (t : Slab TableView) (ps : List Stored) (p : Stored) (a : ℕ) → AllTrue frame t → All (HasTable t) ps
    → ((test : Stored → Bool) → All (λ (q : Stored). test q ≡ true) ps → test p ≡ true) → IsCovering a p
    → frame_in (get t p.key) ((place_by (bare p) a).at / 4096) ≡ frame p.seg ((place_by (bare p) a).at / 4096)
own-frame frame t ps p a true-all tables among within =
    let own : HasTable t p = table-of t ps p tables among in
    let page = (place_by (bare p) a).at / 4096 in
    let inside : page < size_in (get t p.key) = omega (arith, within.from, within.to, own.pages) in
    frame-true frame (get t p.key) p.seg page own.seg (true-all p.key) inside
