-- A live segment is the only one at its index that processes have pieces of.
use Rattle.shm_life.proofs.Names.{◌≡◌, ◌≢◌, ℕ, ◌%◌, true, false, List, [], ◌∷◌, Some, None, refl, sym, ◌∙◌, arith, Piece, Entry, Runner, attach_count, sum_by-cons, PiecesFit, PieceFits, common_steps, cases_Bool, nat_tests, All-head, All-tail, All, pieces_of, INDEXES, IsOnlyAt, IsLive, live, live_in, Option, inl, inr, is_some, slice_get, true≢false}

none-among : (table : List Entry) (id : ℕ) → is_some (live table id) ≡ false → (ps : List Piece) → All (PieceFits table) ps → pieces_of id ps ≡ 0
none-among table id dead [] fit = refl
none-among table id dead (p ∷ ps) fit =
    let first = (All-head (PieceFits table) p ps fit).0 in
    let rest = none-among table id dead ps (All-tail (PieceFits table) p ps fit) in
    let ne : p.seg ≢ id = λ same. true≢false (sym (rw same at first) ∙ dead) in
    grind (arith, nat_tests, common_steps, ne, rest)

none-attached : (table : List Entry) (id : ℕ) → is_some (live table id) ≡ false → (rs : List Runner) → PiecesFit table rs → attach_count rs id ≡ 0
none-attached table id dead [] fit = refl
none-attached table id dead (r ∷ rs) fit =
    let fits = λ (x : Runner). All (PieceFits table) x.pieces in
    let first = none-among table id dead r.pieces (All-head fits r rs fit) in
    let rest = none-attached table id dead rs (All-tail fits r rs fit) in
    omega (arith, first, rest, sum_by-cons (λ (x : Runner). pieces_of id x.pieces) r rs)

-- two live segments with one index are one
one-live : (o : Option Entry) (id seg : ℕ) → id % INDEXES ≡ seg % INDEXES → is_some (live_in id o) ≡ true → is_some (live_in seg o) ≡ true → id ≡ seg
one-live None id seg same a b = cc
one-live (Some e) id seg same a b = grind (arith, nat_tests, same)

pub only-at : (table : List Entry) (rs : List Runner) (seg : ℕ) → IsLive table seg → PiecesFit table rs → IsOnlyAt seg (attach_count rs)
only-at table rs seg lives fit = λ id same ne. elim (cases_Bool (is_some (live table id))) [
  | inl t ↦ absurd (ne (one-live (slice_get table (id % INDEXES)) id seg same t (rw same lives)))
  | inr f ↦ none-attached table id f rs fit
]
