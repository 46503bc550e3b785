-- Stores as they are made, and whole segments that are added, locked or unlocked.
use Rattle.shm_fault.proofs.Names.{◌≡◌, ◌≢◌, ℕ, zero, suc, ◌≤◌, ◌+◌, ◌*◌, Bool, true, false, cond, eqb, List, [], ◌∷◌, ◌++◌, map, length, replicate, sum_by, Option, Some, None, is_some, refl, sym, ap, ◌∙◌, inl, inr, arith, flat_map, cases_Bool, cases_eq, cases_lt, length-replicate, get_or-replicate, get_or_past, replicate-append-replicate, sum_by-cons, PageRef, Slot, is_held, held_pages, pages_in_store, pages_if_locked, locked_pages_in_store, with_zeros, with_lock, SwapView, IsSwap, swap_slots, owner_of, Frame, IsFrameBlank, SegRec, no_page, rec_at, find_seg, AreApart, rec_by, count_by_id, HasPage, with_seg_lock, new_seg, with_seg, page_count, locked_pages, StoreView, page_bytes, held_by, fresh_store, IsStoreSound, outline, outlines, nat_tests, common_steps, MOST_FRAMES, held_id, seg_id, inserted}
use Rattle.shm_base.specs.Page.{zero_page}
use Rattle.shm_fault.specs.Store.{held}
use Rattle.shm_fault.proofs.Entries.{apart-edit}
use Rattle.shm_fault.proofs.Ordered.{apart-seg, find-seg_same, find-seg_other, map-inserted, sum-inserted}
use Rattle.shm_fault.proofs.Pages.{rec-past, has-head, has-tail, find-map}
use Rattle.shm_fault.proofs.Sound.{tied-segs, IsSound-from}
use Rattle.shm_fault.proofs.Bytes.{held_one, held_of, bytes_at, held-is, length-joined}
use Rattle.shm_fault.proofs.Spans.{held-in}

pub sound-fresh : (frames : List Frame) (swap : SwapView) → (2 ≤ length frames) × (length frames ≤ MOST_FRAMES) → ((f : ℕ) → IsFrameBlank frames f) → IsSwap swap → ((k : Slot) → owner_of swap k.area k.slot ≡ None) → IsStoreSound (fresh_store frames swap)
sound-fresh frames swap size blank is free = grind (arith, nat_tests, common_steps)

-- a sum of what a change makes no larger
sum-map-le : (h : SegRec → ℕ) (f : SegRec → SegRec) → ((g : SegRec) → h (f g) ≤ h g) → (gs : List SegRec) → sum_by h (map f gs) ≤ sum_by h gs
sum-map-le h f le [] = omega arith
sum-map-le h f le (g ∷ gs) = omega (arith, le g, sum-map-le h f le gs, sum_by-cons h (f g) (map f gs), sum_by-cons h g gs)

-- pages of zeros
more-zeros : (k n : ℕ) → replicate {A = ℕ} k 0 ++ replicate (k * n) 0 ≡ replicate (k * suc n) 0
more-zeros k n = replicate-append-replicate k (k * n) 0 ∙ ap (λ m. replicate m 0) (grind arith)

zeros-joined : (frames : List Frame) (swap : SwapView) (n : ℕ) → flat_map (page_bytes frames swap) (replicate n no_page) ≡ replicate (4096 * n) 0
unfolding zero_page
zeros-joined frames swap zero = refl
zeros-joined frames swap (suc n) = ap (λ l. zero_page ++ l) (zeros-joined frames swap n) ∙ more-zeros 4096 n

module _ (s : StoreView) (sound : IsStoreSound s) where
  length-page : (r : PageRef) → HasPage s.segs r → length (bytes_at s r) ≡ 4096
  length-page r has = (sound.tied.pages r has).whole

  -- the pages of the held segments
  pages-list : (b : PageRef → List ℕ) (gs : List SegRec) → AreApart gs → ((r : PageRef) → HasPage gs r → length (b r) ≡ 4096)
      → (sum_by held_pages (held_of b (outlines gs)) ≡ sum_by page_count gs) × (sum_by pages_if_locked (held_of b (outlines gs)) ≡ sum_by locked_pages gs)
  pages-list b [] apart whole = (refl, refl)
  pages-list b (g ∷ gs) apart whole =
      let rest = pages-list b gs apart.1 (λ r has. whole r (has-tail g gs apart r has)) in
      let size = length-joined b (record { seg = g.id; page = 0 }) (length g.pages) (λ j l. whole (record { seg = g.id; page = j }) (has-head g gs j l)) 0 (length g.pages) (omega arith) in
      let here : held_pages (held_one b (outline g)) ≡ length g.pages = omega (arith, size) in
      let lock : pages_if_locked (held_one b (outline g)) ≡ locked_pages g = grind (arith, nat_tests, here) in (
        omega (arith, rest.0, here, sum_by-cons held_pages (held_one b (outline g)) (held_of b (outlines gs)), sum_by-cons page_count g gs),
        omega (arith, rest.1, lock, sum_by-cons pages_if_locked (held_one b (outline g)) (held_of b (outlines gs)), sum_by-cons locked_pages g gs),
      )

  pub pages_in_store-is : pages_in_store (held s) ≡ sum_by page_count s.segs
  pages_in_store-is = ap (sum_by held_pages) (held-is s sound.apart) ∙ (pages-list (bytes_at s) s.segs sound.apart length-page).0

  -- a segment of zeros is added
  module _ (id n : ℕ) (new : find_seg s.segs id ≡ None) where
    abbrev added : List SegRec
    added = with_seg s.segs id n

    abbrev find-or : Option SegRec → ℕ → Option SegRec
    find-or None k = cond (eqb id k) (Some (new_seg id n)) None
    find-or (Some g) k = Some g

    find-added : (k : ℕ) → find_seg added k ≡ find-or (find_seg s.segs k) k
    find-added k = grind (arith, nat_tests, common_steps, cases_eq id k, find-seg_same s.segs (new_seg id n) new, find-seg_other s.segs (new_seg id n) k)

    blank-at : (k : ℕ) → rec_at (replicate n no_page) k ≡ no_page
    blank-at k = grind (arith, get_or-replicate n k no_page no_page, get_or_past (replicate n no_page) k no_page, length-replicate n no_page)

    pub rec-added : (r : PageRef) → rec_by added r ≡ rec_by s.segs r
    rec-added r = grind (arith, nat_tests, find-added r.seg, blank-at r.page)

    has-added : (r : PageRef) → HasPage s.segs r → HasPage added r
    has-added r has = grind (arith, nat_tests, find-added r.seg, has)

    pub sound-added : sum_by page_count s.segs + n ≤ swap_slots s.swap → IsStoreSound (record s { segs = added })
    unfolding zero_page
    sound-added room =
        let t : StoreView = record s { segs = added } in
        IsSound-from t
        (record {
          pages = λ r has. elim (cases_lt r.page (count_by_id s.segs r.seg)) [
            | inl there ↦
                tied-segs s added r (rec-added r) (sound.tied.pages r there)
            | inr past ↦
                let none : rec_by added r ≡ no_page = rec-added r ∙ rec-past s.segs r past in
                record {
                  frame_owned = λ f e. cc (rw none at e);
                  owner_resident = λ f e. let has₂ = sound.tied.owners f r e in absurd (omega arith);
                  slot_owned = λ k e. cc (rw none at e);
                  owner_stored = λ k e. let has₂ = sound.tied.slot_owners k r e in absurd (omega arith);
                  clean = λ f e d. cc (rw none at e);
                  whole = rw none (length-replicate {A = ℕ} 4096 0);
                }
          ];
          owners = λ f r e. has-added r (sound.tied.owners f r e);
          slot_owners = λ k r e. has-added r (sound.tied.slot_owners k r e);
          free = sound.tied.free;
        })
        (apart-seg s.segs (new_seg id n) sound.apart new) sound.frames sound.swap sound.hand
        (let sum = sum-inserted page_count seg_id (new_seg id n) s.segs in omega (arith, sum, room, length-replicate n no_page))
        (let sum = sum-inserted locked_pages seg_id (new_seg id n) s.segs in omega (arith, sum, sound.locked))

    pub held-added : held (record s { segs = added }) ≡ with_zeros (held s) id n
    unfolding held
    held-added =
        map-inserted (held_by s.frames s.swap) seg_id held_id (λ g. refl) (new_seg id n) s.segs
        ∙ ap (λ bs. inserted held_id (record { id = id; locked = false; bytes = bs }) (map (held_by s.frames s.swap) s.segs)) (zeros-joined s.frames s.swap n)

  -- a segment is locked or unlocked
  module _ (id : ℕ) (locked : Bool) where
    keeps-id : (g : SegRec) → (with_seg_lock id locked g).id ≡ g.id
    keeps-id g = elim (cases_Bool (eqb g.id id)) [ inl t ↦ rw t refl | inr f ↦ rw f refl ]

    pages-locked : (g : SegRec) → (with_seg_lock id locked g).pages ≡ g.pages
    pages-locked g = elim (cases_Bool (eqb g.id id)) [ inl t ↦ rw t refl | inr f ↦ rw f refl ]

    pub rec-locked : (r : PageRef) → rec_by (map (with_seg_lock id locked) s.segs) r ≡ rec_by s.segs r
    rec-locked r = grind (arith, nat_tests, find-map (with_seg_lock id locked) keeps-id s.segs r.seg, pages-locked)

    count-locked : (k : ℕ) → count_by_id (map (with_seg_lock id locked) s.segs) k ≡ count_by_id s.segs k
    count-locked k = grind (arith, nat_tests, find-map (with_seg_lock id locked) keeps-id s.segs k, pages-locked)

    pub sound-locked : sum_by locked_pages (map (with_seg_lock id locked) s.segs) + 2 ≤ length s.frames → IsStoreSound (record s { segs = map (with_seg_lock id locked) s.segs })
    sound-locked few =
        let t : StoreView = record s { segs = map (with_seg_lock id locked) s.segs } in
        IsSound-from t
        (record {
          pages = λ r has.
              tied-segs s t.segs r (rec-locked r) (sound.tied.pages r (rw (count-locked r.seg) at has));
          owners = λ f r e. rw (count-locked r.seg) (sound.tied.owners f r e);
          slot_owners = λ k r e. rw (count-locked r.seg) (sound.tied.slot_owners k r e);
          free = sound.tied.free;
        })
        (apart-edit (λ (g : SegRec). record g { locked = locked }) (λ g. refl) s.segs id sound.apart) sound.frames sound.swap sound.hand
        (let sum = sum-map-le page_count (with_seg_lock id locked) (λ g. rw (pages-locked g) (omega arith)) s.segs in omega (arith, sum, sound.capacity)) few

    held-list : (gs : List SegRec) → map (held_by s.frames s.swap) (map (with_seg_lock id locked) gs) ≡ with_lock (map (held_by s.frames s.swap) gs) id locked
    held-list [] = refl
    held-list (g ∷ gs) = grind (arith, nat_tests, held-list gs)

    pub held-locked : held (record s { segs = map (with_seg_lock id locked) s.segs }) ≡ with_lock (held s) id locked
    unfolding held
    held-locked = held-list s.segs

fewer-locked : (id : ℕ) (g : SegRec) → locked_pages (with_seg_lock id false g) ≤ locked_pages g
fewer-locked id g = elim (cases_Bool (eqb g.id id)) [ inl t ↦ rw t (omega arith) | inr f ↦ rw f (omega arith) ]

-- locking, where the pages are few enough
pub few-locked : (s : StoreView) → IsStoreSound s → (id : ℕ) (locked : Bool) → (locked ≡ true → locked_pages_in_store (with_lock (held s) id true) + 2 ≤ length s.frames) → sum_by locked_pages (map (with_seg_lock id locked) s.segs) + 2 ≤ length s.frames
few-locked s sound id false few = let f = sum-map-le locked_pages (with_seg_lock id false) (fewer-locked id) s.segs in omega (arith, f, sound.locked)
few-locked s sound id true few =
    let t : StoreView = record s { segs = map (with_seg_lock id true) s.segs } in
    let apart : AreApart t.segs = apart-edit (λ (g : SegRec). record g { locked = true }) (λ g. refl) s.segs id sound.apart in
    let e : locked_pages_in_store (held t) ≡ sum_by locked_pages t.segs =
    ap (sum_by pages_if_locked) (held-is t apart) ∙ (pages-list s sound (bytes_at t) t.segs apart (λ r has. rw (rec-locked s sound id true r) (length-page s sound r (rw (count-locked s sound id true r.seg) at has)))).1 in
    let h : locked_pages_in_store (held t) ≡ locked_pages_in_store (with_lock (held s) id true) = ap locked_pages_in_store (held-locked s sound id true) in
    let f = few refl in
    omega (arith, e, h, f)

none-from : (o : Option SegRec) → is_some o ≡ false → o ≡ None
none-from o e = grind arith

-- a segment that is held
pub held-there : (s : StoreView) → IsStoreSound s → (id : ℕ) → is_held (held s) id ≡ true → find_seg s.segs id ≢ None
held-there s sound id e none = let no : is_some (find_seg s.segs id) ≡ true = sym (held-in s sound id) ∙ e in let false_is : false ≡ true = rw none at no in cc

-- a segment that is not held
pub not-held : (s : StoreView) → IsStoreSound s → (id : ℕ) → is_held (held s) id ≡ false → find_seg s.segs id ≡ None
not-held s sound id e = none-from (find_seg s.segs id) (sym (held-in s sound id) ∙ e)
