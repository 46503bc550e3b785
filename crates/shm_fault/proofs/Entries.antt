-- The stored segments, by index: looked up, added, taken out, changed.
use Rattle.shm_fault.proofs.Names.{◌≡◌, ◌≢◌, ◌<◌, ◌≤◌, ◌+◌, ◌-◌, ◌%◌, ◌++◌, ℕ, zero, suc, length, get_or, set, not, cond, eqb, List, [], ◌∷◌, map, filter, replicate, Option, Some, None, refl, sym, ap, ◌∙◌, inl, inr, arith, cases_Bool, cases_eq, eq-eqb, get_or_past, PageRef, HasPage, SegRec, find_seg, AreApart, but, nat_tests, common_steps, lt-ltb, le-ltb, get_or_default, padded, INDEXES, get_or-padded, present, AreIndexed, inserted, seg_id, IsIndexFree}
use Rattle.shm_fault.proofs.Slots.{set-cases}
use Rattle.shm_fault.proofs.Pages.{find-map, find-id}

-- AN EDIT OF THE SEGMENT WITH AN IDENTIFIER

abbrev pub edit_at : ℕ → (SegRec → SegRec) → SegRec → SegRec
edit_at id f g = cond (eqb g.id id) (f g) g

-- one that is not there
pub edit-none : (f : SegRec → SegRec) (gs : List SegRec) (id : ℕ) → find_seg gs id ≡ None → map (edit_at id f) gs ≡ gs
edit-none f [] id none = refl
edit-none f (g ∷ gs) id none = grind (arith, nat_tests, edit-none f gs id)

edit-id : (f : SegRec → SegRec) → ((g : SegRec) → (f g).id ≡ g.id) → (id : ℕ) (g : SegRec) → (edit_at id f g).id ≡ g.id
edit-id f keeps id g = elim (cases_Bool (eqb g.id id)) [ inl t ↦ rw t (keeps g) | inr n ↦ rw n refl ]

pub apart-edit : (f : SegRec → SegRec) → ((g : SegRec) → (f g).id ≡ g.id) → (gs : List SegRec) (id : ℕ) → AreApart gs → AreApart (map (edit_at id f) gs)
apart-edit f keeps [] id apart = tt
apart-edit f keeps (g ∷ gs) id apart = grind (arith, nat_tests, common_steps, edit-id, find-map, edit_at, g.id, apart.0, apart.1, apart-edit f keeps gs id apart.1)

-- ONE TAKEN OUT

pub filter-none : (gs : List SegRec) (id : ℕ) → find_seg gs id ≡ None → filter (λ (g : SegRec). not (eqb g.id id)) gs ≡ gs
filter-none [] id none = refl
filter-none (g ∷ gs) id none = grind (arith, nat_tests, filter-none gs id)

pub find-but : (gs : List SegRec) (id k : ℕ) → k ≢ id → find_seg (but id gs) k ≡ find_seg gs k
find-but [] id k n = refl
find-but (g ∷ gs) id k n = grind (arith, nat_tests, find-but gs id k n)

pub find-out : (gs : List SegRec) (id : ℕ) → find_seg (but id gs) id ≡ None
find-out [] id = refl
find-out (g ∷ gs) id = grind (arith, nat_tests, find-out gs id)

find-filter : (gs : List SegRec) (id k : ℕ) → find_seg gs k ≡ None → find_seg (but id gs) k ≡ None
find-filter gs id k none = grind (arith, find-out gs id, find-but gs id k, cases_eq k id)

pub apart-filter : (gs : List SegRec) (id : ℕ) → AreApart gs → AreApart (filter (λ (g : SegRec). not (eqb g.id id)) gs)
apart-filter [] id apart = tt
apart-filter (g ∷ gs) id apart = grind (arith, nat_tests, find-filter gs id g.id apart.0, apart-filter gs id apart.1)

-- THE ENTRIES BY INDEX

-- the segment of an entry, if it has this identifier
abbrev pub found_in : Option SegRec → ℕ → Option SegRec
found_in None id = None
found_in (Some g) id = cond (eqb g.id id) (Some g) None

rest : (first : ℕ) (o : Option SegRec) (os : List (Option SegRec)) → AreIndexed first (o ∷ os) → AreIndexed (suc first) os
rest first o os are k g at = are (suc k) g at ∙ omega arith

-- a lower index is that of no segment
below : (first : ℕ) (os : List (Option SegRec)) → AreIndexed first os → (id : ℕ) → id % INDEXES < first → find_seg (present os) id ≡ None
below first [] are id lt = refl
below first (None ∷ os) are id lt = below (suc first) os (rest first None os are) id (omega (arith, lt))
below first (Some g ∷ os) are id lt = grind (arith, nat_tests, common_steps, are 0 g refl, below (suc first) os (rest first (Some g) os are) id)

-- a segment is found at its index
pub find-at : (first : ℕ) (os : List (Option SegRec)) → AreIndexed first os → (id k : ℕ) → id % INDEXES ≡ first + k → find_seg (present os) id ≡ found_in (get_or os k None) id
find-at first [] are id k e = refl
find-at first (None ∷ os) are id zero e = below (suc first) os (rest first None os are) id (omega (arith, e))
find-at first (Some g ∷ os) are id zero e = rw (below (suc first) os (rest first (Some g) os are) id (omega (arith, e))) refl
find-at first (None ∷ os) are id (suc k) e = find-at (suc first) os (rest first None os are) id k (omega (arith, e))
find-at first (Some g ∷ os) are id (suc k) e = grind (arith, nat_tests, common_steps, are 0 g refl, find-at (suc first) os (rest first (Some g) os are) id k)

pub find-is : (os : List (Option SegRec)) → AreIndexed 0 os → (id : ℕ) → find_seg (present os) id ≡ found_in (get_or os (id % INDEXES) None) id
find-is os are id = find-at 0 os are id (id % INDEXES) (omega arith)

-- the entry of a segment that there is
pub entry-there : (os : List (Option SegRec)) → AreIndexed 0 os → (id : ℕ) → find_seg (present os) id ≢ None → (o : Option SegRec) → get_or os (id % INDEXES) None ≡ o → find_seg (present os) id ≡ o
entry-there os are id there o at = grind (arith, nat_tests, common_steps, find-is os are id)

-- ENTRIES CHANGED

-- an entry gets a segment of its index, or none
pub indexed-set : (first : ℕ) (os : List (Option SegRec)) → AreIndexed first os → (k : ℕ) (o : Option SegRec) → ((g : SegRec) → o ≡ Some g → g.id % INDEXES ≡ first + k) → AreIndexed first (set os k o)
indexed-set first os are k o own j g at = elim (set-cases os k o None j) [
  | inl here ↦ own g (sym here.1 ∙ at) ∙ ap (λ n. first + n) (sym here.0)
  | inr kept ↦ are j g (sym kept ∙ at)
]

-- indexes without a segment are added at the end
pub present-padded : (os : List (Option SegRec)) (n : ℕ) → present (padded os n None) ≡ present os
present-padded os n = by os (n - length os)
  where
    none : (m : ℕ) → present (replicate m None) ≡ []
    none zero = refl
    none (suc m) = none m

    by : (xs : List (Option SegRec)) (m : ℕ) → present (xs ++ replicate m None) ≡ present xs
    by [] m = none m
    by (None ∷ xs) m = by xs m
    by (Some g ∷ xs) m = ap (λ gs. g ∷ gs) (by xs m)

pub indexed-padded : (first : ℕ) (os : List (Option SegRec)) (n : ℕ) → AreIndexed first os → AreIndexed first (padded os n None)
indexed-padded first os n are = λ k g at. are k g (sym (get_or-padded os n k None) ∙ at)

-- a segment is put at its index, which has none
pub present-put : (first : ℕ) (os : List (Option SegRec)) → AreIndexed first os → (k : ℕ) (h : SegRec) → k < length os → get_or os k None ≡ None → h.id % INDEXES ≡ first + k
    → present (set os k (Some h)) ≡ inserted seg_id h (present os)
present-put first [] are k h lt at own = absurd (omega arith)
present-put first (o ∷ os) are zero h lt at own = rw at (front os (rest first o os are))
  where
    front : (xs : List (Option SegRec)) → AreIndexed (suc first) xs → h ∷ present xs ≡ inserted seg_id h (present xs)
    front xs later = lead (present xs) (λ g gs e. ahead (suc first) xs later g gs e)
      where
        ahead : (low : ℕ) (ys : List (Option SegRec)) → AreIndexed low ys → (g : SegRec) (gs : List SegRec) → present ys ≡ g ∷ gs → low ≤ g.id % INDEXES
        ahead low [] ar g gs e = cc
        ahead low (None ∷ ys) ar g gs e = let more = ahead (suc low) ys (rest low None ys ar) g gs e in omega (arith, more)
        ahead low (Some x ∷ ys) ar g gs e =
            let same : x ≡ g = cc in
            let is : x.id % INDEXES ≡ low + 0 = ar 0 x refl in
            rw (← same) (omega (arith, is))

        lead : (gs : List SegRec) → ((g : SegRec) (hs : List SegRec) → gs ≡ g ∷ hs → suc first ≤ g.id % INDEXES) → h ∷ gs ≡ inserted seg_id h gs
        lead [] far = refl
        lead (g ∷ gs) far = let lt₂ : h.id % INDEXES < g.id % INDEXES = let f = far g gs refl in omega (arith, f, own) in rw (lt-ltb (h.id % INDEXES) (g.id % INDEXES) lt₂) refl
present-put first (None ∷ os) are (suc k) h lt at own = present-put (suc first) os (rest first None os are) k h (omega (arith, lt)) at (own ∙ omega arith)
present-put first (Some g ∷ os) are (suc k) h lt at own =
    let is : g.id % INDEXES ≡ first + 0 = are 0 g refl in
    let le : g.id % INDEXES ≤ h.id % INDEXES = omega (arith, is, own) in
    rw (le-ltb (h.id % INDEXES) (g.id % INDEXES) le) (ap (λ gs. g ∷ gs) (present-put (suc first) os (rest first (Some g) os are) k h (omega (arith, lt)) at (own ∙ omega arith)))

-- the segment at an index is taken out
pub present-out : (first : ℕ) (os : List (Option SegRec)) → AreIndexed first os → (k : ℕ) (g : SegRec) → get_or os k None ≡ Some g → present (set os k None) ≡ but g.id (present os)
present-out first [] are k g at = cc
present-out first (o ∷ os) are zero g at =
    let is : g.id % INDEXES ≡ first + 0 = are 0 g at in
    let none : find_seg (present os) g.id ≡ None = below (suc first) os (rest first o os are) g.id (omega (arith, is)) in
    rw (at, eq-eqb g.id g.id refl) (sym (filter-none (present os) g.id none))
present-out first (None ∷ os) are (suc k) g at = present-out (suc first) os (rest first None os are) k g at
present-out first (Some h ∷ os) are (suc k) g at = grind (arith, nat_tests, common_steps, are 0 h refl, are (suc k) g at, present-out (suc first) os (rest first (Some h) os are) k g at)

-- or changed
pub present-edit : (f : SegRec → SegRec) (first : ℕ) (os : List (Option SegRec)) → AreIndexed first os → (k : ℕ) (g : SegRec) → get_or os k None ≡ Some g → present (set os k (Some (f g))) ≡ map (edit_at g.id f) (present os)
present-edit f first [] are k g at = cc
present-edit f first (o ∷ os) are zero g at = grind (arith, nat_tests, common_steps, are 0 g at, below (suc first) os (rest first o os are) g.id, edit-none)
present-edit f first (None ∷ os) are (suc k) g at = present-edit f (suc first) os (rest first None os are) k g at
present-edit f first (Some h ∷ os) are (suc k) g at = grind (arith, nat_tests, common_steps, are 0 h refl, are (suc k) g at, present-edit f (suc first) os (rest first (Some h) os are) k g at)

-- THE ENTRY OF A SEGMENT THAT THERE IS, AS CODE READS IT

module _ (os : List (Option SegRec)) (are : AreIndexed 0 os) (id k : ℕ) (index : k ≡ id % INDEXES) (there : find_seg (present os) id ≢ None) where
  pub index-there : k < length os
  index-there = grind (arith, nat_tests, common_steps, find-is os are id, get_or_past)

  pub out-there : present (set os k None) ≡ but id (present os)
  out-there = by (get_or os k None) refl
    where
      by : (o : Option SegRec) → get_or os k None ≡ o → present (set os k None) ≡ but id (present os)
      by None e = absurd (there (find-is os are id ∙ ap (λ x. found_in x id) (rw index at e)))
      by (Some g) e =
          let at : get_or os (id % INDEXES) None ≡ Some g = rw index at e in
          let own : g.id ≡ id = find-id (present os) id g (entry-there os are id there (Some g) at) in
          present-out 0 os are k g e ∙ ap (λ n. but n (present os)) own

  module _ (o : Option SegRec) (read : o ≡ get_or os k o) where
    pub entry-read : get_or os (id % INDEXES) None ≡ o
    entry-read = rw (← index) (get_or_default os k None o index-there ∙ sym read)

    pub seg-read : find_seg (present os) id ≡ o
    seg-read = entry-there os are id there o entry-read

    module _ (g : SegRec) (is : o ≡ Some g) where
      id-read : g.id ≡ id
      id-read = find-id (present os) id g (seg-read ∙ is)

      at-index : get_or os k None ≡ Some g
      at-index = rw index (entry-read ∙ is)

      pub edit-read : (f : SegRec → SegRec) → present (set os k (Some (f g))) ≡ map (edit_at id f) (present os)
      edit-read f = present-edit f 0 os are k g at-index ∙ ap (λ n. map (edit_at n f) (present os)) id-read

-- the segment of a page that there is
pub page-there : (gs : List SegRec) (r : PageRef) → HasPage gs r → find_seg gs r.seg ≢ None
page-there gs r has none = let few : r.page < 0 = rw none at has in omega (arith, few)

-- ONE ADDED, AS CODE ADDS IT

-- no segment has the index, so its entry has none
free-entry : (os : List (Option SegRec)) → AreIndexed 0 os → (id : ℕ) → IsIndexFree (present os) id → get_or os (id % INDEXES) None ≡ None
free-entry os are id free = by (get_or os (id % INDEXES) None) refl
  where
    by : (o : Option SegRec) → get_or os (id % INDEXES) None ≡ o → get_or os (id % INDEXES) None ≡ None
    by None e = e
    by (Some g) e =
        let own : g.id % INDEXES ≡ id % INDEXES = omega (arith, are (id % INDEXES) g e) in
        let found : find_seg (present os) g.id ≡ Some g = find-is os are g.id ∙ rw (own, e, eq-eqb g.id g.id refl) refl in
        let none : find_seg (present os) g.id ≡ None = free g.id own in
        cc (none, found)

-- the entries after indexes were appended, and the segment was put at its own
module _ (os : List (Option SegRec)) (are : AreIndexed 0 os) (id k n : ℕ) (index : k ≡ id % INDEXES) (h : SegRec) (own : h.id ≡ id) where
  at-own : h.id % INDEXES ≡ 0 + k
  at-own = ap (λ m. m % INDEXES) own ∙ sym index ∙ omega arith

  pub indexed-added : AreIndexed 0 (set (padded os n None) k (Some h))
  indexed-added = indexed-set 0 (padded os n None) (indexed-padded 0 os n are) k (Some h) (λ g e. let same : h ≡ g = cc in rw same at at-own)

  pub present-added : IsIndexFree (present os) id → k < length (padded os n None) → present (set (padded os n None) k (Some h)) ≡ inserted seg_id h (present os)
  present-added free lt =
      let none : get_or (padded os n None) k None ≡ None = get_or-padded os n k None ∙ rw index (free-entry os are id free) in
      present-put 0 (padded os n None) (indexed-padded 0 os n are) k h lt none at-own ∙ ap (inserted seg_id h) (present-padded os n)
