-- The bytes of segments, from those of their pages.
use Rattle.shm_fault.proofs.Names.{◌≡◌, ◌≢◌, ℕ, zero, suc, ◌<◌, ◌≤◌, ◌+◌, ◌-◌, ◌*◌, List, [], ◌∷◌, ◌++◌, map, length, take, drop, refl, sym, ap, inl, inr, arith, append_assoc, length-drop, flat_map, cases_eq, take-append-le, drop-append-le, PageRef, Held, paste, SwapView, Frame, PageRec, SegRec, rec_at, AreApart, rec_by, HasPage, StoreView, page_bytes, held_by, Outline, outline, outlines, common_steps, nat_tests}
use Rattle.shm_fault.specs.Store.{held}
use Rattle.shm_fault.proofs.Pages.{has-head, rec-head, has-tail, rec-tail}

-- the bytes of a segment's pages from page i on, joined
unfoldable pub joined : (PageRef → List ℕ) → ℕ → ℕ → ℕ → List ℕ
joined b id i zero = []
joined b id i (suc n) = b (record { seg = id; page = i }) ++ joined b id (suc i) n

abbrev pub held_one : (PageRef → List ℕ) → Outline → Held
held_one b o = record { id = o.id; locked = o.locked; bytes = joined b o.id 0 o.count }

-- the segments of these outlines, with the bytes that a function gives each page
abbrev pub held_of : (PageRef → List ℕ) → List Outline → List Held
held_of b os = map (held_one b) os

-- the bytes of a page
abbrev pub bytes_at : StoreView → PageRef → List ℕ
bytes_at s r = page_bytes s.frames s.swap (rec_by s.segs r)

pub joined-ext : (b c : PageRef → List ℕ) (id i n : ℕ) → ((j : ℕ) → j < n → b (record { seg = id; page = i + j }) ≡ c (record { seg = id; page = i + j })) → joined b id i n ≡ joined c id i n
unfolding joined
joined-ext b c id i zero same = refl
joined-ext b c id i (suc n) same =
    let rest = joined-ext b c id (suc i) n (λ j l. let s : i + suc j ≡ suc i + j = omega arith in rw s at (same (suc j) (omega arith))) in
    grind (arith, same 0 (omega arith), rest)

-- pages that have the same bytes make the same segments
pub held_of-ext : (b c : PageRef → List ℕ) (gs : List SegRec) → AreApart gs → ((r : PageRef) → HasPage gs r → b r ≡ c r) → held_of b (outlines gs) ≡ held_of c (outlines gs)
held_of-ext b c [] apart same = refl
held_of-ext b c (g ∷ gs) apart same =
    let here : joined b g.id 0 (length g.pages) ≡ joined c g.id 0 (length g.pages) = grind (arith, nat_tests, common_steps, joined-ext, g.id, g.pages, has-head) in
    let rest : held_of b (outlines gs) ≡ held_of c (outlines gs) = held_of-ext b c gs apart.1 (λ r has. same r (has-tail g gs apart r has)) in
    let one : held_one b (outline g) ≡ held_one c (outline g) = ap (λ bs. record { id = g.id; locked = g.locked; bytes = bs }) here in
    cc

joined-pages : (frames : List Frame) (swap : SwapView) (id i : ℕ) (ps : List PageRec) (b : PageRef → List ℕ) → ((j : ℕ) → j < length ps → b (record { seg = id; page = i + j }) ≡ page_bytes frames swap (rec_at ps j))
    → flat_map (page_bytes frames swap) ps ≡ joined b id i (length ps)
unfolding joined
joined-pages frames swap id i [] b is = refl
joined-pages frames swap id i (p ∷ ps) b is =
    let rest = joined-pages frames swap id (suc i) ps b (λ j l. let s : i + suc j ≡ suc i + j = omega arith in rw s at (is (suc j) (omega arith))) in
    grind (arith, is 0 (omega arith), rest)

-- the held segments, by the bytes of their pages
held-list : (frames : List Frame) (swap : SwapView) (gs : List SegRec) (b : PageRef → List ℕ) → AreApart gs → ((r : PageRef) → HasPage gs r → b r ≡ page_bytes frames swap (rec_by gs r)) → map (held_by frames swap) gs ≡ held_of b (outlines gs)
held-list frames swap [] b apart is = refl
held-list frames swap (g ∷ gs) b apart is =
    let here : flat_map (page_bytes frames swap) g.pages ≡ joined b g.id 0 (length g.pages) = grind (arith, nat_tests, common_steps, joined-pages, g.id, g.pages, rec-head, has-head) in
    let rest : map (held_by frames swap) gs ≡ held_of b (outlines gs) = held-list frames swap gs b apart.1 (λ r has. rw (rec-tail g gs apart r has) at (is r (has-tail g gs apart r has))) in
    let one : held_by frames swap g ≡ held_one b (outline g) = ap (λ bs. record { id = g.id; locked = g.locked; bytes = bs }) here in
    cc

pub held-is : (s : StoreView) → AreApart s.segs → held s ≡ held_of (bytes_at s) (outlines s.segs)
unfolding held
held-is s apart = held-list s.frames s.swap s.segs (bytes_at s) apart (λ r has. refl)

-- no page's bytes changed
pub held-same : (s t : StoreView) → AreApart s.segs → AreApart t.segs → outlines t.segs ≡ outlines s.segs → ((r : PageRef) → HasPage s.segs r → bytes_at t r ≡ bytes_at s r) → held t ≡ held s
held-same s t apart after shape same = grind (arith, nat_tests, common_steps, held-is, held_of, bytes_at, held_of-ext, s.segs)

take-past : (x y : List ℕ) (n m : ℕ) → length x ≡ n → take (n + m) (x ++ y) ≡ x ++ take m y
take-past [] y n m e = let z : n + m ≡ m = omega arith in rw z refl
take-past (a ∷ x) y zero m e = absurd (omega arith)
take-past (a ∷ x) y (suc n) m e = let s : suc n + m ≡ suc (n + m) = omega arith in rw s (ap (λ l. a ∷ l) (take-past x y n m (omega arith)))

drop-past : (x y : List ℕ) (n m : ℕ) → length x ≡ n → drop (n + m) (x ++ y) ≡ drop m y
drop-past [] y n m e = let z : n + m ≡ m = omega arith in rw z refl
drop-past (a ∷ x) y zero m e = absurd (omega arith)
drop-past (a ∷ x) y (suc n) m e = let s : suc n + m ≡ suc (n + m) = omega arith in rw s (drop-past x y n m (omega arith))

paste-front : (x y new : List ℕ) (off : ℕ) → off + length new ≤ length x → paste (x ++ y) off new ≡ paste x off new ++ y
paste-front x y new off le = grind (arith, common_steps, append_assoc)

paste-back : (x y new : List ℕ) (n m : ℕ) → length x ≡ n → paste (x ++ y) (n + m) new ≡ x ++ paste y m new
paste-back x y new n m e = grind (arith, common_steps, take-past x y n m e, drop-past x y n (m + length new) e)

-- a span of one page pasted, or read, in the bytes of all
module _ (b : PageRef → List ℕ) (r : PageRef) (n : ℕ) (whole : (j : ℕ) → j < n → length (b (record { seg = r.seg; page = j })) ≡ 4096) where
  pub joined-paste : (c : PageRef → List ℕ) (new : List ℕ) (off i k : ℕ) → i + k ≡ n → i ≤ r.page → r.page < n → off + length new ≤ 4096
      → c r ≡ paste (b r) off new → ((j : ℕ) → j ≢ r.page → c (record { seg = r.seg; page = j }) ≡ b (record { seg = r.seg; page = j }))
      → joined c r.seg i k ≡ paste (joined b r.seg i k) (4096 * (r.page - i) + off) new
  unfolding joined
  joined-paste c new off i zero e le lt fits here others = absurd (omega arith)
  joined-paste c new off i (suc k) e le lt fits here others = elim (cases_eq i r.page) [
    | inl at ↦
        let z : 4096 * (r.page - i) + off ≡ off = omega arith in
        let w : length (b (record { seg = r.seg; page = i })) ≡ 4096 = whole i (omega arith) in
        let first : c (record { seg = r.seg; page = i }) ≡ paste (b (record { seg = r.seg; page = i })) off new = rw at here in
        let rest : joined c r.seg (suc i) k ≡ joined b r.seg (suc i) k = joined-ext c b r.seg (suc i) k (λ j l. others (suc i + j) (omega arith)) in
        rw (z, first, rest) (sym (paste-front (b (record { seg = r.seg; page = i })) (joined b r.seg (suc i) k) new off (omega arith)))
    | inr n' ↦
        let s : 4096 * (r.page - i) + off ≡ 4096 + (4096 * (r.page - suc i) + off) = omega arith in
        let w : length (b (record { seg = r.seg; page = i })) ≡ 4096 = whole i (omega arith) in
        let rest = joined-paste c new off (suc i) k (omega arith) (omega arith) lt fits here others in
        rw (s, others i n', rest) (sym (paste-back (b (record { seg = r.seg; page = i })) (joined b r.seg (suc i) k) new 4096 (4096 * (r.page - suc i) + off) w))
  ]

  pub joined-read : (len off i k : ℕ) → i + k ≡ n → i ≤ r.page → r.page < n → off + len ≤ 4096
      → take len (drop (4096 * (r.page - i) + off) (joined b r.seg i k)) ≡ take len (drop off (b r))
  unfolding joined
  joined-read len off i zero e le lt fits = absurd (omega arith)
  joined-read len off i (suc k) e le lt fits = elim (cases_eq i r.page) [
    | inl at ↦
        let z : 4096 * (r.page - i) + off ≡ off = omega arith in
        let x = b (record { seg = r.seg; page = i }) in
        let w : length x ≡ 4096 = whole i (omega arith) in
        let d : drop off (x ++ joined b r.seg (suc i) k) ≡ drop off x ++ joined b r.seg (suc i) k = drop-append-le off x (joined b r.seg (suc i) k) (omega arith) in
        let t : take len (drop off x ++ joined b r.seg (suc i) k) ≡ take len (drop off x) = take-append-le len (drop off x) (joined b r.seg (suc i) k) (omega (arith, length-drop off x)) in
        rw (z, d, t, at) refl
    | inr n' ↦
        let s : 4096 * (r.page - i) + off ≡ 4096 + (4096 * (r.page - suc i) + off) = omega arith in
        let x = b (record { seg = r.seg; page = i }) in
        let w : length x ≡ 4096 = whole i (omega arith) in
        let rest = joined-read len off (suc i) k (omega arith) (omega arith) lt fits in
        rw (s, drop-past x (joined b r.seg (suc i) k) 4096 (4096 * (r.page - suc i) + off) w) rest
  ]

  pub length-joined : (i k : ℕ) → i + k ≡ n → length (joined b r.seg i k) ≡ 4096 * k
  unfolding joined
  length-joined i zero e = refl
  length-joined i (suc k) e = grind (arith, common_steps, whole i (omega arith), length-joined (suc i) k (omega arith))
