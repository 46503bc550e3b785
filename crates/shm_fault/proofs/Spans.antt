-- Spans of pages, in the bytes of segments and in frames.
use Rattle.shm_fault.proofs.Names.{◌≡◌, ◌≢◌, ℕ, suc, ◌<◌, ◌≤◌, ◌+◌, ◌-◌, ◌*◌, ◌/◌, ◌%◌, List, [], ◌∷◌, map, length, get_or, take, drop, sum_by, Some, None, is_some, refl, sym, ap, ◌∙◌, inl, inr, arith, option_map, cases_eq, eq-eqb, ne_eqb, sum_by-cons, PageRef, Span, find_held, bytes_of, is_held, FitsPage, span_bytes, paste, pasted, AreaView, IsArea, slots_in, size_of, no_area, frame_at, SegRec, find_seg, AreApart, count_by_id, HasPage, page_count, StoreView, held, ref_of, IsStoreSound, outline, outlines, frame_by, nat_tests, common_steps, MOST_SLOTS, most_swap_slots}
use Rattle.shm_fault.proofs.Pages.{find-id, has-tail}
use Rattle.shm_fault.proofs.Bytes.{joined, held_one, held_of, bytes_at, held-is, joined-read, joined-paste, joined-ext, length-joined}

find-held : (b : PageRef → List ℕ) (gs : List SegRec) (id : ℕ) → find_held (held_of b (outlines gs)) id ≡ option_map (λ (g : SegRec). held_one b (outline g)) (find_seg gs id)
find-held b [] id = refl
find-held b (g ∷ gs) id = grind (arith, nat_tests, find-held b gs id)

module _ (s : StoreView) (sound : IsStoreSound s) where
  find-in : (id : ℕ) → find_held (held s) id ≡ option_map (λ (g : SegRec). held_one (bytes_at s) (outline g)) (find_seg s.segs id)
  find-in id = ap (λ hs. find_held hs id) (held-is s sound.apart) ∙ find-held (bytes_at s) s.segs id

  pub bytes-in : (id : ℕ) → bytes_of (held s) id ≡ joined (bytes_at s) id 0 (count_by_id s.segs id)
  unfolding joined
  bytes-in id = grind (arith, nat_tests, find-in id, find-id s.segs id)

  whole-in : (id : ℕ) (j : ℕ) → j < count_by_id s.segs id → length (bytes_at s (record { seg = id; page = j })) ≡ 4096
  whole-in id j lt = (sound.tied.pages (record { seg = id; page = j }) lt).whole

  pub length-in : (id : ℕ) → length (bytes_of (held s) id) ≡ 4096 * count_by_id s.segs id
  length-in id = ap length (bytes-in id) ∙ length-joined (bytes_at s) (record { seg = id; page = 0 }) (count_by_id s.segs id) (whole-in id) 0 (count_by_id s.segs id) (omega arith)

  pub held-in : (id : ℕ) → is_held (held s) id ≡ is_some (find_seg s.segs id)
  held-in id = grind (arith, nat_tests, find-in id)

  -- the page of a span is there
  pub fits-has : (p : Span) → FitsPage (held s) p → HasPage s.segs (ref_of p)
  fits-has p fit = grind (arith, nat_tests, common_steps, length-in, p.seg, fit.1, fit.2.0)

  pub span-read : (p : Span) (f : ℕ) → FitsPage (held s) p → frame_by s (ref_of p) ≡ Some f → span_bytes (held s) p ≡ take p.len (drop (p.at % 4096) (frame_at s.frames f).bytes)
  span-read p f fit at =
      let has = fits-has p fit in
      let split : 4096 * (p.at / 4096 - 0) + p.at % 4096 ≡ p.at = omega arith in
      let read = joined-read (bytes_at s) (ref_of p) (count_by_id s.segs p.seg) (whole-in p.seg) p.len (p.at % 4096) 0 (count_by_id s.segs p.seg) (omega arith) (omega arith) has (omega (arith, fit.2.1)) in
      let bytes : bytes_at s (ref_of p) ≡ (frame_at s.frames f).bytes = rw at refl in
      rw (bytes-in p.seg) (rw split at read ∙ ap (λ l. take p.len (drop (p.at % 4096) l)) bytes)

-- one span written
pasted-list : (b c : PageRef → List ℕ) (gs : List SegRec) (r : PageRef) (off : ℕ) (new : List ℕ) → AreApart gs → ((q : PageRef) → HasPage gs q → length (b q) ≡ 4096) → HasPage gs r → off + length new ≤ 4096
    → c r ≡ paste (b r) off new → ((q : PageRef) → q ≢ r → c q ≡ b q) → held_of c (outlines gs) ≡ map (pasted r.seg (4096 * r.page + off) new) (held_of b (outlines gs))
pasted-list b c [] r off new apart whole has fits here others = refl
pasted-list b c (g ∷ gs) r off new apart whole has fits here others = elim (cases_eq g.id r.seg) [
  | inl e ↦
      let lt : r.page < length g.pages = rw (eq-eqb g.id r.seg e) at has in
      let z : 4096 * (r.page - 0) + off ≡ 4096 * r.page + off = omega arith in
      let one = joined-paste b r (length g.pages) (λ j l. whole (record { seg = r.seg; page = j }) (rw (eq-eqb g.id r.seg e) l)) c new off 0 (length g.pages) (omega arith) (omega arith) lt fits here (λ j n. others (record { seg = r.seg; page = j }) (λ same. n (ap (λ (q : PageRef). q.page) same))) in
      let head : joined c g.id 0 (length g.pages) ≡ paste (joined b g.id 0 (length g.pages)) (4096 * r.page + off) new = rw (e, ← z) one in
      let none : find_seg gs r.seg ≡ None = rw e at apart.0 in
      let rest : held_of c (outlines gs) ≡ map (pasted r.seg (4096 * r.page + off) new) (held_of b (outlines gs)) = far gs r.seg (λ q ne. others q (λ same. ne (ap (λ (x : PageRef). x.seg) same))) none in
      rw (eq-eqb g.id r.seg e) (let h : held_one c (outline g) ≡ record { id = g.id; locked = g.locked; bytes = paste (joined b g.id 0 (length g.pages)) (4096 * r.page + off) new } = ap (λ bs. record { id = g.id; locked = g.locked; bytes = bs }) head in cc)
  | inr n ↦
      let head : joined c g.id 0 (length g.pages) ≡ joined b g.id 0 (length g.pages) = joined-ext c b g.id 0 (length g.pages) (λ j l. others (record { seg = g.id; page = 0 + j }) (λ same. n (ap (λ (q : PageRef). q.seg) same))) in
      let rest = pasted-list b c gs r off new apart.1 (λ q there. whole q (has-tail g gs apart q there)) (rw (ne_eqb g.id r.seg n) at has) fits here others in
      rw (ne_eqb g.id r.seg n) (let h : held_one c (outline g) ≡ held_one b (outline g) = ap (λ bs. record { id = g.id; locked = g.locked; bytes = bs }) head in cc)
]
  where
    far : (hs : List SegRec) (id : ℕ) → ((q : PageRef) → q.seg ≢ id → c q ≡ b q) → find_seg hs id ≡ None → held_of c (outlines hs) ≡ map (pasted id (4096 * r.page + off) new) (held_of b (outlines hs))
    far [] id same none = refl
    far (h ∷ hs) id same none = grind (arith, nat_tests, common_steps, joined-ext c b h.id 0 (length h.pages), far hs id same)

-- one page got other bytes, those of a span
pub held-pasted : (s t : StoreView) → IsStoreSound s → AreApart t.segs → outlines t.segs ≡ outlines s.segs → (r : PageRef) (off : ℕ) (new : List ℕ) → HasPage s.segs r → off + length new ≤ 4096
    → bytes_at t r ≡ paste (bytes_at s r) off new → ((q : PageRef) → q ≢ r → bytes_at t q ≡ bytes_at s q) → held t ≡ map (pasted r.seg (4096 * r.page + off) new) (held s)
held-pasted s t sound apart shape r off new has fits here others =
    held-is t apart ∙ ap (held_of (bytes_at t)) shape
    ∙ pasted-list (bytes_at s) (bytes_at t) s.segs r off new sound.apart (λ q there. (sound.tied.pages q there).whole) has fits here others
    ∙ ap (map (pasted r.seg (4096 * r.page + off) new)) (sym (held-is s sound.apart))

-- no segment has 2^32 pages, and all together do not
sum-slots : (areas : List AreaView) → ((i : ℕ) → IsArea (get_or areas i no_area)) → sum_by slots_in (map size_of areas) ≤ MOST_SLOTS * length areas
sum-slots [] each = omega arith
sum-slots (a ∷ areas) each = grind (arith, nat_tests, sum-slots areas (λ i. each (suc i)), (each 0).small, sum_by-cons slots_in (size_of a) (map size_of areas))

count-le-sum : (gs : List SegRec) (id : ℕ) → count_by_id gs id ≤ sum_by page_count gs
count-le-sum [] id = omega arith
count-le-sum (g ∷ gs) id = grind (arith, nat_tests, count-le-sum gs id, sum_by-cons page_count g gs)

pub few_in_all : (s : StoreView) → IsStoreSound s → sum_by page_count s.segs ≤ most_swap_slots
few_in_all s sound = omega (arith, sum-slots s.swap.areas sound.swap.each, sound.capacity, sound.swap.few)

pub few_pages : (s : StoreView) → IsStoreSound s → (id : ℕ) → count_by_id s.segs id ≤ most_swap_slots
few_pages s sound id = omega (arith, count-le-sum s.segs id, few_in_all s sound)
