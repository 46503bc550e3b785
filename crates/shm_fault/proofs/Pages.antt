-- Where pages are, looked up and changed; what a list of segments keeps where its pages move.
use Rattle.shm_fault.proofs.Names.{◌≡◌, ◌≢◌, ◌⊎◌, ℕ, ◌<◌, ◌≤◌, Bool, true, false, not, cond, eqb, List, [], ◌∷◌, length, sum_by, Some, None, refl, sym, ap, ◌∙◌, inl, inr, arith, length-set, get_or-set_same, get_or-set_other, map, option_map, cases_Bool, cases_lt, eq-eqb, ne_eqb, eqb-true, and_parts, false≢true, not-false, false_from_ne_true, get_or_past, sum_by-cons, Slot, PageRef, PageRec, Outline, outline, outlines, is_page, SegRec, no_page, rec_at, find_seg, AreApart, rec_by, count_by_id, HasPage, locked_by, seg_with, with_rec, page_count, locked_pages, nat_tests, common_steps, StoreView, Still}
use Rattle.shm_fault.specs.Store.{frame_of}

-- the name of another page
abbrev pub other : PageRef → PageRef → Bool
other r q = not (is_page q r.seg r.page)

-- a name is its parts
pub ref_parts : (q r : PageRef) → q.seg ≡ r.seg → q.page ≡ r.page → q ≡ r
ref_parts q r a b = let l : record { seg = q.seg; page = q.page } ≡ record { seg = r.seg; page = r.page } = rw (a, b) refl in l

pub same-true : (q r : PageRef) → is_page q r.seg r.page ≡ true → q ≡ r
same-true q r t = grind (arith, nat_tests, common_steps, and_parts, eqb, q.seg, r.seg, q.page, r.page, ref_parts, eqb-true)

pub same-self : (r : PageRef) → is_page r r.seg r.page ≡ true
same-self r = rw (eq-eqb r.seg r.seg refl, eq-eqb r.page r.page refl) refl

pub other-false : (r q : PageRef) → other r q ≡ false → q ≡ r
other-false r q e = same-true q r (not-false (is_page q r.seg r.page) e)

pub other-self : (r : PageRef) → other r r ≡ false
other-self r = rw (same-self r) refl

pub other-true : (r q : PageRef) → q ≢ r → other r q ≡ true
other-true r q n = grind (arith, nat_tests, n, other-false r q)

pub other_ne : (r q : PageRef) → other r q ≡ true → q ≢ r
other_ne r q e same = false≢true (sym (other-self r) ∙ (rw same at e))

pub same-other : (r q : PageRef) → other r q ≡ true → is_page r q.seg q.page ≡ false
same-other r q off = false_from_ne_true (is_page r q.seg q.page) (λ t. other_ne r q off (sym (same-true r q t)))

pub cases_ref : (r q : PageRef) → (q ≡ r) ⊎ (other r q ≡ true)
cases_ref r q = elim (cases_Bool (other r q)) [ inl t ↦ inr t | inr f ↦ inl (other-false r q f) ]

-- of one outline are the segments that are found, or none is
found-same : (gs hs : List SegRec) (id : ℕ) → outlines hs ≡ outlines gs → (count_by_id hs id ≡ count_by_id gs id) × (locked_by hs id ≡ locked_by gs id) × (find_seg gs id ≡ None → find_seg hs id ≡ None)
found-same [] [] id e = (refl, refl, λ h. refl)
found-same [] (h ∷ hs) id e = cc
found-same (g ∷ gs) [] id e = cc
found-same (g ∷ gs) (h ∷ hs) id e =
    let o : outline h ≡ outline g = cc in
    let rest : outlines hs ≡ outlines gs = cc in
    let same : h.id ≡ g.id = ap (λ (x : Outline). x.id) o in
    grind (arith, nat_tests, common_steps, eqb, g.id, same, o, rest, found-same gs hs id rest)

-- a segment that there was is found
pub found-still : (gs hs : List SegRec) (id : ℕ) → outlines hs ≡ outlines gs → find_seg gs id ≢ None → find_seg hs id ≢ None
found-still gs hs id e there none = there ((found-same hs gs id (sym e)).2 none)

pub count-same : (gs hs : List SegRec) (id : ℕ) → outlines hs ≡ outlines gs → count_by_id hs id ≡ count_by_id gs id
count-same gs hs id e = (found-same gs hs id e).0

pub has-same : (gs hs : List SegRec) (r : PageRef) → outlines hs ≡ outlines gs → HasPage gs r → HasPage hs r
has-same gs hs r e has = rw (count-same gs hs r.seg e) has

pub locked-same : (gs hs : List SegRec) (id : ℕ) → outlines hs ≡ outlines gs → locked_by hs id ≡ locked_by gs id
locked-same gs hs id e = (found-same gs hs id e).1

pub apart-same : (gs hs : List SegRec) → outlines hs ≡ outlines gs → AreApart gs → AreApart hs
apart-same gs [] e apart = tt
apart-same [] (h ∷ hs) e apart = cc
apart-same (g ∷ gs) (h ∷ hs) e apart =
    let a : outline h ≡ outline g = cc in
    let b : outlines hs ≡ outlines gs = cc in
    let i : h.id ≡ g.id = ap (λ (o : Outline). o.id) a in
    (rw i ((found-same gs hs g.id b).2 apart.0), apart-same gs hs b apart.1)

-- what each segment weighs by its outline, summed up
sum-same : (weigh : Outline → ℕ) (h : SegRec → ℕ) → ((g : SegRec) → h g ≡ weigh (outline g)) → (gs hs : List SegRec) → outlines hs ≡ outlines gs → sum_by h hs ≡ sum_by h gs
sum-same weigh h is [] [] e = refl
sum-same weigh h is (g ∷ gs) [] e = cc
sum-same weigh h is [] (k ∷ ks) e = cc
sum-same weigh h is (g ∷ gs) (k ∷ ks) e = grind (arith, e, is k, is g, sum-same weigh h is gs ks, sum_by-cons h k ks, sum_by-cons h g gs)

pub sum_pages-same : (gs hs : List SegRec) → outlines hs ≡ outlines gs → sum_by page_count hs ≡ sum_by page_count gs
sum_pages-same gs hs e = sum-same (λ o. o.count) page_count (λ g. refl) gs hs e

pub sum_locked-same : (gs hs : List SegRec) → outlines hs ≡ outlines gs → sum_by locked_pages hs ≡ sum_by locked_pages gs
sum_locked-same gs hs e = sum-same (λ o. cond o.locked o.count 0) locked_pages (λ g. refl) gs hs e

outline-seg_with : (r : PageRef) (p : PageRec) (g : SegRec) → outline (seg_with r p g) ≡ outline g
outline-seg_with r p g = grind (arith, nat_tests, length-set g.pages r.page p)

pub outlines-with : (gs : List SegRec) (r : PageRef) (p : PageRec) → outlines (with_rec gs r p) ≡ outlines gs
outlines-with [] r p = refl
outlines-with (g ∷ gs) r p = cc (outline-seg_with r p g, outlines-with gs r p)

-- a change that keeps identifiers, looked up
pub find-map : (f : SegRec → SegRec) → ((g : SegRec) → (f g).id ≡ g.id) → (gs : List SegRec) (id : ℕ) → find_seg (map f gs) id ≡ option_map f (find_seg gs id)
find-map f keeps [] id = refl
find-map f keeps (g ∷ gs) id = grind (arith, nat_tests, keeps g, find-map f keeps gs id)

find-with : (gs : List SegRec) (r : PageRef) (p : PageRec) (id : ℕ) → find_seg (with_rec gs r p) id ≡ option_map (seg_with r p) (find_seg gs id)
find-with gs r p id = find-map (seg_with r p) (λ g. ap (λ (o : Outline). o.id) (outline-seg_with r p g)) gs id

-- which segment was found
pub find-id : (gs : List SegRec) (id : ℕ) (g : SegRec) → find_seg gs id ≡ Some g → g.id ≡ id
find-id [] id g e = cc
find-id (h ∷ gs) id g e = grind (arith, nat_tests, find-id gs id g)

-- the pages of the first segment of a list
pub has-head : (g : SegRec) (gs : List SegRec) (j : ℕ) → j < length g.pages → HasPage (g ∷ gs) (record { seg = g.id; page = j })
has-head g gs j lt = rw (eq-eqb g.id g.id refl) lt

pub rec-head : (g : SegRec) (gs : List SegRec) (j : ℕ) → rec_by (g ∷ gs) (record { seg = g.id; page = j }) ≡ rec_at g.pages j
rec-head g gs j = rw (eq-eqb g.id g.id refl) refl

-- and those of the rest
pub not-head : (g : SegRec) (gs : List SegRec) → AreApart (g ∷ gs) → (r : PageRef) → HasPage gs r → g.id ≢ r.seg
not-head g gs apart r has e = let none : find_seg gs r.seg ≡ None = rw e at apart.0 in let no_count : r.page < 0 = rw none at has in absurd (omega arith)

pub has-tail : (g : SegRec) (gs : List SegRec) → AreApart (g ∷ gs) → (r : PageRef) → HasPage gs r → HasPage (g ∷ gs) r
has-tail g gs apart r has = rw (ne_eqb g.id r.seg (not-head g gs apart r has)) has

pub rec-tail : (g : SegRec) (gs : List SegRec) → AreApart (g ∷ gs) → (r : PageRef) → HasPage gs r → rec_by (g ∷ gs) r ≡ rec_by gs r
rec-tail g gs apart r has = rw (ne_eqb g.id r.seg (not-head g gs apart r has)) refl

-- where the page is that was set
pub rec-with : (gs : List SegRec) (r : PageRef) (p : PageRec) → HasPage gs r → rec_by (with_rec gs r p) r ≡ p
rec-with gs r p has = grind (arith, nat_tests, find-with gs r p r.seg, find-id gs r.seg, get_or-set_same, has)

-- and where any other page is
pub rec-with_other : (gs : List SegRec) (r q : PageRef) (p : PageRec) → other r q ≡ true → rec_by (with_rec gs r p) q ≡ rec_by gs q
rec-with_other gs r q p off = grind (arith, nat_tests, common_steps, find-with, q.seg, find-id, get_or-set_other)

-- no page's frame changed
pub still-with : (gs : List SegRec) (r : PageRef) (p : PageRec) → HasPage gs r → p.frame ≡ (rec_by gs r).frame → (q : PageRef) → (rec_by (with_rec gs r p) q).frame ≡ (rec_by gs q).frame
still-with gs r p has same q = grind (arith, cases_ref r q, rec-with gs r p has, rec-with_other gs r q p, same)

-- a page's frame is the same, by its name and by its numbers
pub still-by : (s t : StoreView) → Still s t → (r : PageRef) → (rec_by t.segs r).frame ≡ (rec_by s.segs r).frame
unfolding frame_of
still-by s t still r = still r.seg r.page

pub by-still : (s t : StoreView) → ((r : PageRef) → (rec_by t.segs r).frame ≡ (rec_by s.segs r).frame) → Still s t
unfolding frame_of
by-still s t still seg page = still (record { seg = seg; page = page })

-- a page that is somewhere is there
pub has-somewhere : (gs : List SegRec) (r : PageRef) → rec_by gs r ≢ no_page → HasPage gs r
has-somewhere gs r n = grind (arith, nat_tests, n, get_or_past, cases_lt)

pub has-frame : (gs : List SegRec) (r : PageRef) (f : ℕ) → (rec_by gs r).frame ≡ Some f → HasPage gs r
has-frame gs r f e = has-somewhere gs r (λ none. let h : (rec_by gs r).frame ≡ None = rw none refl in cc)

pub has-slot : (gs : List SegRec) (r : PageRef) (k : Slot) → (rec_by gs r).slot ≡ Some k → HasPage gs r
has-slot gs r k e = has-somewhere gs r (λ none. let h : (rec_by gs r).slot ≡ None = rw none refl in cc)

pub rec-past : (gs : List SegRec) (r : PageRef) → count_by_id gs r.seg ≤ r.page → rec_by gs r ≡ no_page
rec-past gs r past = grind (arith, nat_tests, get_or_past, past)
