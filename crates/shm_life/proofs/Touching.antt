-- The pages of an access: those of its spans are those of its bytes.
use Rattle.shm_life.proofs.Names.{nat_tests, common_steps, ◌≡◌, ℕ, zero, suc, ◌+◌, ◌*◌, ◌/◌, ◌≤◌, Bool, true, false, List, [], ◌∷◌, length, None, refl, sym, ap, ◌∙◌, arith, inl, inr, All, Place, Span, InPage, page_of, span_places, PageRef, StoreView, eq-eqb, subst, false≢true, run, Transfers, counted, no_transfers, HasPage, rec_by, IsResident, frame_of, is_page, ref_of, again, dirtied-again, visited, Paged, Touched, All-cons, All-nil, page_of_byte, pages_after, pages_of_bytes, whole_page, ComeIn, ComeInUpTo, CountsPages, Option, ◌++◌, if◌then◌else◌, is_some, map, ◌⊎◌}
use Rattle.shm_fault.specs.Acting.{left_by}
use Rattle.shm_fault.specs.Placing.{Places, access_counted, after_access, after_visit, dirtied, places, visit_counted, with_dirty, Stops, StopsAt}
use Rattle.shm_fault.proofs.Pages.{same-true}

-- WHICH PAGES

-- spans have these pages: one each, or two spans have one
pub data HavePages : List Span → List PageRef → Type 0 where
  none : HavePages [] []
  one : {p : Span} → HavePages (p ∷ []) (ref_of p ∷ [])
  two : {p q : Span} → HavePages (p ∷ q ∷ []) (ref_of p ∷ ref_of q ∷ [])
  twice : {p q : Span} → ref_of p ≡ ref_of q → HavePages (p ∷ q ∷ []) (ref_of p ∷ [])

-- bytes of the last page add none
run-within : (seg n at : ℕ) (r : PageRef) (rest : List Place) → r.seg ≡ seg → 4096 * r.page ≤ at → at + n ≤ 4096 * r.page + 4096 → pages_after r (run seg at n false ++ rest) ≡ pages_after r rest
run-within seg zero at r rest same low high = refl
run-within seg (suc n) at r rest same low high =
    let page : r.page ≡ at / 4096 = omega (arith, low, high) in
    rw (eq-eqb r.seg seg same, eq-eqb r.page (at / 4096) page) (run-within seg n (at + 1) r rest same (omega (arith, low)) (omega (arith, high)))

pub span-first : (n : ℕ) (p : Span) (rest : List Place) → n ≡ p.len → InPage p → pages_of_bytes (run p.seg p.at n false ++ rest) ≡ ref_of p ∷ pages_after (ref_of p) rest
span-first zero p rest is fit = absurd (omega (arith, is, fit.0))
span-first (suc n) p rest is fit = ap (λ rs. ref_of p ∷ rs) (run-within p.seg n (p.at + 1) (ref_of p) rest refl (omega arith) (omega (arith, is, fit.1)))

-- those of a later span are one page more, unless it is the last one
pub span-next : (n : ℕ) (r : PageRef) (p : Span) → n ≡ p.len → InPage p → pages_after r (run p.seg p.at n false ++ []) ≡ (if is_page r p.seg (page_of p) then [] else ref_of p ∷ [])
span-next zero r p is fit = absurd (omega (arith, is, fit.0))
span-next (suc n) r p is fit = by (is_page r p.seg (page_of p)) refl
  where
    by : (b : Bool) → is_page r p.seg (page_of p) ≡ b → (if b then pages_after r (run p.seg (p.at + 1) n false ++ []) else page_of_byte (record { seg = p.seg; at = p.at; writable = false }) ∷ pages_after (ref_of p) (run p.seg (p.at + 1) n false ++ [])) ≡ (if b then [] else ref_of p ∷ [])
    by true here = rw (same-true r (ref_of p) here) (run-within p.seg n (p.at + 1) (ref_of p) [] refl (omega arith) (omega (arith, is, fit.1)))
    by false other = ap (λ rs. ref_of p ∷ rs) (run-within p.seg n (p.at + 1) (ref_of p) [] refl (omega arith) (omega (arith, is, fit.1)))

pub have-pages : (ps : List Span) → length ps ≤ 2 → All InPage ps → HavePages ps (pages_of_bytes (span_places false ps))
have-pages [] few fit = none
have-pages (p ∷ []) few fit =
    let at = fit 0 p (omega arith) in
    rw (span-first p.len p [] refl at) one
have-pages (p ∷ q ∷ []) few fit = by (is_page (ref_of p) q.seg (page_of q)) refl
  where
    at : InPage p × InPage q
    at = (fit 0 p (omega arith), fit 1 p (omega arith))

    by : (b : Bool) → is_page (ref_of p) q.seg (page_of q) ≡ b → HavePages (p ∷ q ∷ []) (pages_of_bytes (run p.seg p.at p.len false ++ (run q.seg q.at q.len false ++ [])))
    by true same = rw (span-first p.len p (run q.seg q.at q.len false ++ []) refl at.0, span-next q.len (ref_of p) q refl at.1, same) (twice (same-true (ref_of p) (ref_of q) same))
    by false other = rw (span-first p.len p (run q.seg q.at q.len false ++ []) refl at.0, span-next q.len (ref_of p) q refl at.1, other) two
have-pages (p ∷ q ∷ r ∷ ps) few fit = absurd (omega (arith, few))

-- WHAT THE PAGES DETERMINE

pub whole-page : (n : ℕ) → 4096 * n / 4096 ≡ n
whole-page n = omega arith

pub whole-ref : (r : PageRef) → ref_of (whole_page r) ≡ r
whole-ref r = ap (λ n. record { seg = r.seg; page = n }) (whole-page r.page)

-- each span's page exists
abbrev pub AllHave : Places → List Span → Type 0
AllHave s ps = All (λ (p : Span). HasPage s.segs (ref_of p)) ps

-- two visits and what they count, two pages that become dirty, and a stop at one of two pages
abbrev visits : PageRef → PageRef → Places → Places
visits r q s = let first = after_visit r None s in after_visit q (rec_by first.segs r).frame first

abbrev dirties : PageRef → PageRef → Places → Places
dirties r q s = let first = dirtied (rec_by s.segs r).frame s in dirtied (rec_by first.segs q).frame first

abbrev visits_counted : PageRef → PageRef → Places → Transfers
visits_counted r q s = let first = after_visit r None s in visit_counted q (rec_by first.segs r).frame first (visit_counted r None s no_transfers)

abbrev StopsAtOne : PageRef → PageRef → Places → Places → Transfers → Type 0
StopsAtOne r q s t c =
    let first = after_visit r None s in
    StopsAt r None s t no_transfers c ⊎ StopsAt q (rec_by first.segs r).frame first t (visit_counted r None s no_transfers) c

pub came-pages : (s : Places) {ps : List Span} {rs : List PageRef} → HavePages ps rs → AllHave s ps → after_access ps s ≡ after_access (map whole_page rs) s
unfolding after_access
came-pages s none has = refl
came-pages s (one {p}) has = rw (whole-ref (ref_of p)) refl
came-pages s (two {p} {q}) has = ap (λ r. visits r (ref_of q) s) (sym (whole-ref (ref_of p))) ∙ ap (λ r. visits (ref_of (whole_page (ref_of p))) r s) (sym (whole-ref (ref_of q)))
came-pages s (twice {p} {q} same) has =
    ap (λ r. visits (ref_of p) r s) (sym same) ∙ again (ref_of p) s (has 0 p (omega arith)) ∙ ap (λ r. after_visit r None s) (sym (whole-ref (ref_of p)))

-- a visit to a resident page counts nothing
seen-counted : (r : PageRef) (pinned : Option ℕ) (s : Places) (c : Transfers) → is_some (rec_by s.segs r).frame ≡ true → visit_counted r pinned s c ≡ c
unfolding visit_counted
seen-counted r pinned s c some = grind (arith, common_steps, nat_tests)

pub counted-pages : (s : Places) {ps : List Span} {rs : List PageRef} → HavePages ps rs → AllHave s ps → access_counted ps s ≡ access_counted (map whole_page rs) s
unfolding access_counted
counted-pages s none has = refl
counted-pages s (one {p}) has = rw (whole-ref (ref_of p)) refl
counted-pages s (two {p} {q}) has =
    ap (λ r. visits_counted r (ref_of q) s) (sym (whole-ref (ref_of p))) ∙ ap (λ r. visits_counted (ref_of (whole_page (ref_of p))) r s) (sym (whole-ref (ref_of q)))
counted-pages s (twice {p} {q} same) has =
    let first = after_visit (ref_of p) None s in
    ap (λ r. visits_counted (ref_of p) r s) (sym same)
    ∙ seen-counted (ref_of p) (rec_by first.segs (ref_of p)).frame first (visit_counted (ref_of p) None s no_transfers) (visited (ref_of p) s (has 0 p (omega arith)))
    ∙ ap (λ r. visit_counted r None s no_transfers) (sym (whole-ref (ref_of p)))

pub dirty-pages : (s : Places) {ps : List Span} {rs : List PageRef} → HavePages ps rs → with_dirty ps s ≡ with_dirty (map whole_page rs) s
unfolding with_dirty
dirty-pages s none = refl
dirty-pages s (one {p}) = ap (λ r. dirtied (rec_by s.segs r).frame s) (sym (whole-ref (ref_of p)))
dirty-pages s (two {p} {q}) = ap (λ r. dirties r (ref_of q) s) (sym (whole-ref (ref_of p))) ∙ ap (λ r. dirties (ref_of (whole_page (ref_of p))) r s) (sym (whole-ref (ref_of q)))
dirty-pages s (twice {p} {q} same) =
    ap (λ r. dirties (ref_of p) r s) (sym same) ∙ dirtied-again (ref_of p) s (rec_by s.segs (ref_of p)).frame refl ∙ ap (λ r. dirtied (rec_by s.segs r).frame s) (sym (whole-ref (ref_of p)))

pub left-pages : (puts : Bool) (s : Places) {ps : List Span} {rs : List PageRef} → HavePages ps rs → AllHave s ps → left_by puts ps (after_access ps s) ≡ left_by puts (map whole_page rs) (after_access (map whole_page rs) s)
left-pages true s have has = dirty-pages _ have ∙ ap (with_dirty _) (came-pages s have has)
left-pages false s have has = came-pages s have has

pub stop-pages : (s t : Places) (c : Transfers) {ps : List Span} {rs : List PageRef} → HavePages ps rs → AllHave s ps → Stops ps s t c → Stops (map whole_page rs) s t c
unfolding Stops
stop-pages s t c none has stops = stops
stop-pages s t c (one {p}) has stops = rw (whole-ref (ref_of p)) stops
stop-pages s t c (two {p} {q}) has stops =
    subst (λ r. StopsAtOne (ref_of (whole_page (ref_of p))) r s t c) (sym (whole-ref (ref_of q))) (subst (λ r. StopsAtOne r (ref_of q) s t c) (sym (whole-ref (ref_of p))) stops)
stop-pages s t c (twice {p} {q} same) has (inl first) = rw (whole-ref (ref_of p)) first
stop-pages s t c (twice {p} {q} same) has (inr second) =
    let away = subst (λ r. (rec_by (after_visit (ref_of p) None s).segs r).frame ≡ None) (sym same) second.away in
    absurd (false≢true (ap is_some (sym away) ∙ visited (ref_of p) s (has 0 p (omega arith))))

resident-at : (s : StoreView) (p q : Span) → ref_of p ≡ ref_of q → IsResident s p → IsResident s q
resident-at s p q same is = ap (λ (r : PageRef). is_some (frame_of s r.seg r.page)) (sym same) ∙ is

resident-whole : (s : StoreView) (p : Span) → IsResident s (whole_page (ref_of p)) → IsResident s p
resident-whole s p is = resident-at s (whole_page (ref_of p)) p (whole-ref (ref_of p)) is

pub resident-pages : (s : StoreView) {ps : List Span} {rs : List PageRef} → HavePages ps rs → All (IsResident s) (map whole_page rs) → All (IsResident s) ps
resident-pages s none all = All-nil (IsResident s)
resident-pages s (one {p}) all = All-cons (IsResident s) p [] (resident-whole s p (all 0 p (omega arith))) (All-nil (IsResident s))
resident-pages s (two {p} {q}) all =
    All-cons (IsResident s) p (q ∷ []) (resident-whole s p (all 0 p (omega arith)))
    (All-cons (IsResident s) q [] (resident-whole s q (all 1 p (omega arith))) (All-nil (IsResident s)))
resident-pages s (twice {p} {q} same) all =
    let at = resident-whole s p (all 0 p (omega arith)) in
    All-cons (IsResident s) p (q ∷ []) at (All-cons (IsResident s) q [] (resident-at s p q same at) (All-nil (IsResident s)))

-- WHAT AN ACCESS DOES TO THEM

counts : (s t : StoreView) (u : Touched) (ok : Bool) (ps : List Span) (rs : List PageRef) → HavePages ps rs → Paged ps s t u ok → CountsPages (counted u) (map whole_page rs) s t ok
counts s t u ok ps rs have p = record { read_in = p.read_in; written_out = p.written_out; failures = p.failures; quiet = λ all. (p.quiet (resident-pages s have all)).1 }

has-places : (s : StoreView) (ps : List Span) → All (λ (p : Span). HasPage s.segs (ref_of p)) ps → AllHave (places s) ps
unfolding places
has-places s ps has = has

pub comes-in : (puts : Bool) (s t : StoreView) (u : Touched) (ps : List Span) (rs : List PageRef) → HavePages ps rs → All (λ (p : Span). HasPage s.segs (ref_of p)) ps → Paged ps s t u true
    → places t ≡ left_by puts ps (after_access ps (places s)) → ComeIn puts (map whole_page rs) s t
comes-in puts s t u ps rs have has p came =
    let there = has-places s ps has in
    record {
      counts = rw (← counted-pages (places s) have there, ← p.transfers refl) (counts s t u true ps rs have p);
      places = came ∙ left-pages puts (places s) have there;
    }

pub comes-up-to : (s t : StoreView) (u : Touched) (ps : List Span) (rs : List PageRef) → HavePages ps rs → All (λ (p : Span). HasPage s.segs (ref_of p)) ps → Paged ps s t u false → Stops ps (places s) (places t) (counted u) → ComeInUpTo (map whole_page rs) s t
comes-up-to s t u ps rs have has p stops = record {
  before = counted u;
  counts = counts s t u false ps rs have p;
  stopped = stop-pages (places s) (places t) (counted u) have (has-places s ps has) stops;
}
