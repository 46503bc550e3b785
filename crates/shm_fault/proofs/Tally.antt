-- Resident, dirty and used pages, by frames and by slots.
use Rattle.shm_fault.proofs.Names.{◌≡◌, ℕ, suc, ◌<◌, ◌≤◌, ◌+◌, ◌-◌, Bool, true, false, not, cond, eqb, leb, List, [], ◌∷◌, map, length, get_or, sum_by, Option, Some, None, is_some, refl, sym, ap, ◌∙◌, inl, inr, arith, count_by, cases_lt, eq-eqb, le-leb, lt-leb, get_or_past, length-map, sum_by-cons, PageRef, Slot, AreaView, no_area, used_in, used_slots, Frame, frame_at, is_dirty, resident_of, dirty_of, SegRec, rec_by, AreApart, HasPage, locked_by, page_count, locked_pages, StoreView, has_frame, has_slot, is_dirty_page, dirty_in, resident, dirty, used, Tied, one_if, nat_tests, common_steps, get_or-map}
use Rattle.shm_fault.proofs.Counts.{weigh, weigh-ext, weigh-sum, weigh-zero, weigh-le, weigh-ge, weigh-test, weigh-all, weigh-locked, at_least, counted_by_page}

abbrev none_if : Bool → ℕ
none_if b = cond b 0 1

count-map : {X Y : Type 0} (f : X → Y) (test : Y → Bool) (xs : List X) → count_by test (map f xs) ≡ count_by (λ x. test (f x)) xs
count-map f test [] = refl
count-map f test (x ∷ xs) = let rest = count-map f test xs in omega (arith, rest, sum_by-cons (λ y. cond (test y) 1 0) (f x) (map f xs), sum_by-cons (λ y. cond (test (f y)) 1 0) x xs)

pub count-ext : {X : Type 0} (p q : X → Bool) (xs : List X) → ((x : X) → p x ≡ q x) → count_by p xs ≡ count_by q xs
count-ext p q [] same = refl
count-ext p q (x ∷ xs) same = grind (arith, same x, count-ext p q xs same, sum_by-cons)

-- the page, where the test passes
abbrev kept_if : Bool → Option PageRef → Option PageRef
kept_if true o = o
kept_if false o = None

abbrev passes_in : (PageRef → Frame → Bool) → Frame → Option PageRef → Bool
passes_in test x None = false
passes_in test x (Some r) = test r x

-- the frame is owned, and its page and it pass the test
abbrev pub passes_by : (PageRef → Frame → Bool) → Frame → Bool
passes_by test x = passes_in test x x.owner

abbrev owner_if : (PageRef → Frame → Bool) → Frame → Option PageRef
owner_if test x = kept_if (passes_by test x) x.owner

owner_if-some : (test : PageRef → Frame → Bool) (x : Frame) → is_some (owner_if test x) ≡ passes_by test x
owner_if-some test x = grind (arith, nat_tests)

-- the page is resident, and it and its frame pass the test
abbrev pub page_passes : (PageRef → Frame → Bool) → List Frame → PageRef → Option ℕ → Bool
page_passes test frames r None = false
page_passes test frames r (Some f) = test r (frame_at frames f)

abbrev number_if : Bool → ℕ → Option ℕ
number_if true f = Some f
number_if false f = None

abbrev number_of : (PageRef → Frame → Bool) → List Frame → PageRef → Option ℕ → Option ℕ
number_of test frames r None = None
number_of test frames r (Some f) = number_if (test r (frame_at frames f)) f

module _ (s : StoreView) (apart : AreApart s.segs) (tied : Tied s) (test : PageRef → Frame → Bool) where
  -- frames by their pages
  pub counted_frames : count_by (passes_by test) s.frames ≡ weigh (λ r p. cond (page_passes test s.frames r p.frame) 1 0) s.segs
  counted_frames =
      sym (count-ext (λ x. is_some (owner_if test x)) (passes_by test) s.frames (owner_if-some test))
      ∙ sym (count-map (owner_if test) is_some s.frames)
      ∙ sym (counted_by_page s.segs apart (λ r p. number_of test s.frames r p.frame) (map (owner_if test) s.frames) 0 there back)
      ∙ weigh-ext (λ r p. at_least 0 (number_of test s.frames r p.frame)) (λ r p. cond (page_passes test s.frames r p.frame) 1 0) s.segs apart (λ r has. same r (rec_by s.segs r).frame)
    where
      same : (r : PageRef) (o : Option ℕ) → at_least 0 (number_of test s.frames r o) ≡ cond (page_passes test s.frames r o) 1 0
      same r o = grind (arith, nat_tests, common_steps)

      read : (i : ℕ) → get_or (map (owner_if test) s.frames) i None ≡ owner_if test (frame_at s.frames i)
      read i = grind (arith, nat_tests, common_steps, s.frames, get_or-map, owner_if, get_or_past, length-map)

      number-is : (r : PageRef) (o : Option ℕ) (i : ℕ) → number_of test s.frames r o ≡ Some i → (o ≡ Some i) × (test r (frame_at s.frames i) ≡ true)
      number-is r None i e = cc
      number-is r (Some f) i e = grind (arith, nat_tests, common_steps, s.frames)

      there : (r : PageRef) (i : ℕ) → HasPage s.segs r → number_of test s.frames r (rec_by s.segs r).frame ≡ Some (0 + i) → get_or (map (owner_if test) s.frames) i None ≡ Some r
      there r i has e =
          let z : 0 + i ≡ i = omega arith in
          let is = number-is r (rec_by s.segs r).frame i (rw z at e) in
          let own = ((tied.pages r has).frame_owned i is.0).1 in
          read i ∙ rw (own, is.1) refl

      owner-is : (x : Frame) (r : PageRef) (o : Option PageRef) → kept_if (passes_in test x o) o ≡ Some r → (o ≡ Some r) × (test r x ≡ true)
      owner-is x r None e = let n : (b : Bool) → kept_if b None ≡ None = elim [ true ↦ refl | false ↦ refl ] in let h : None ≡ Some r = sym (n false) ∙ e in cc
      owner-is x r (Some q) e = grind (arith, nat_tests, common_steps)

      back : (i : ℕ) (r : PageRef) → get_or (map (owner_if test) s.frames) i None ≡ Some r → HasPage s.segs r × (number_of test s.frames r (rec_by s.segs r).frame ≡ Some (0 + i))
      back i r e =
          let z : 0 + i ≡ i = omega arith in
          let is = owner-is (frame_at s.frames i) r (frame_at s.frames i).owner (sym (read i) ∙ e) in
          let has = tied.owners i r is.0 in
          let at = (tied.pages r has).owner_resident i is.0 in
          (has, rw (z, at, is.1) refl)

-- all tests of pages that pass, pass for a page in a frame
always : PageRef → Frame → Bool
always r x = true

has_dirty : PageRef → Frame → Bool
has_dirty r x = x.dirty

module _ (s : StoreView) (apart : AreApart s.segs) (tied : Tied s) where
  pub resident-frames : resident s ≡ resident_of s.frames
  unfolding always
  resident-frames = grind (arith, weigh-test has_frame s.segs, counted_frames s apart tied always)

  pub dirty-frames : dirty s ≡ dirty_of s.frames
  unfolding has_dirty
  dirty-frames =
      sym (weigh-test (is_dirty_page s.frames) s.segs)
      ∙ weigh-ext (λ r p. cond (is_dirty_page s.frames p) 1 0) (λ r p. cond (page_passes has_dirty s.frames r p.frame) 1 0) s.segs apart (λ r has. by r (rec_by s.segs r).frame)
      ∙ sym (counted_frames s apart tied has_dirty)
      ∙ owned s.frames (λ i l. tied.free i)
    where
      by : (r : PageRef) (o : Option ℕ) → one_if (dirty_in s.frames o) ≡ one_if (page_passes has_dirty s.frames r o)
      by r None = refl
      by r (Some f) = refl

      same : (x : Frame) (o : Option PageRef) → x.owner ≡ o → (o ≡ None → x.dirty ≡ false) → passes_in has_dirty x o ≡ x.dirty
      same x None e free = sym (free refl)
      same x (Some r) e free = refl

      owned : (xs : List Frame) → ((i : ℕ) → i < length xs → (frame_at xs i).owner ≡ None → (frame_at xs i).dirty ≡ false) → count_by (passes_by has_dirty) xs ≡ count_by is_dirty xs
      owned [] free = refl
      owned (x ∷ xs) free =
          let here : passes_by has_dirty x ≡ x.dirty = same x x.owner refl (free 0 (omega arith)) in
          let one : one_if (passes_by has_dirty x) ≡ one_if x.dirty = ap one_if here in
          let rest = owned xs (λ i l. free (suc i) (omega arith)) in
          omega (arith, one, rest, sum_by-cons (λ (y : Frame). cond (passes_by has_dirty y) 1 0) x xs, sum_by-cons (λ (y : Frame). cond (is_dirty y) 1 0) x xs)

-- slots by their pages
abbrev area_from : ℕ → Option Slot → ℕ
area_from k None = 0
area_from k (Some j) = cond (leb k j.area) 1 0

abbrev slot_if : Bool → ℕ → Option ℕ
slot_if true j = Some j
slot_if false j = None

abbrev slot_in : ℕ → Option Slot → Option ℕ
slot_in k None = None
slot_in k (Some j) = slot_if (eqb j.area k) j.slot

slot_split : (k : ℕ) (o : Option Slot) → area_from k o ≡ at_least 0 (slot_in k o) + area_from (suc k) o
slot_split k None = refl
slot_split k (Some j) = grind (arith, nat_tests)

slot_in-is : (k j : ℕ) (o : Option Slot) → slot_in k o ≡ Some j → o ≡ Some (record { area = k; slot = j })
slot_in-is k j None e = cc
slot_in-is k j (Some i) e = grind (arith, nat_tests)

slots_by_page : (gs : List SegRec) → AreApart gs → (areas : List AreaView) (k : ℕ)
    → ((r : PageRef) (i j : ℕ) → HasPage gs r → (rec_by gs r).slot ≡ Some (record { area = k + i; slot = j }) → get_or (get_or areas i no_area).owners j None ≡ Some r)
    → ((i j : ℕ) (r : PageRef) → get_or (get_or areas i no_area).owners j None ≡ Some r → HasPage gs r × ((rec_by gs r).slot ≡ Some (record { area = k + i; slot = j })))
    → weigh (λ r p. area_from k p.slot) gs ≡ sum_by used_in areas
slots_by_page gs apart [] k there back = weigh-zero (λ r p. area_from k p.slot) gs apart (λ r has. by r has (rec_by gs r).slot refl)
  where
    by : (r : PageRef) → HasPage gs r → (o : Option Slot) → (rec_by gs r).slot ≡ o → area_from k o ≡ 0
    by r has None e = refl
    by r has (Some j) e = elim (cases_lt j.area k) [
      | inl l ↦ rw (lt-leb k j.area l) refl
      | inr g ↦ absurd (let h : None ≡ Some r = there r (j.area - k) j.slot has (let q : k + (j.area - k) ≡ j.area = omega arith in rw q e) in cc)
    ]
slots_by_page gs apart (a ∷ areas) k there back =
    let z : k + 0 ≡ k = omega arith in
    let first : weigh (λ r p. at_least 0 (slot_in k p.slot)) gs ≡ used_in a = counted_by_page gs apart (λ r p. slot_in k p.slot) a.owners 0
    (λ r i has e. let y : 0 + i ≡ i = omega arith in there r 0 i has (rw z (slot_in-is k i (rec_by gs r).slot (rw y at e))))
    (λ i r e. let b = back 0 i r e in let y : 0 + i ≡ i = omega arith in
    let at : (rec_by gs r).slot ≡ Some (record { area = k; slot = i }) = rw z at b.1 in
    (b.0, rw (y, at, eq-eqb k k refl) refl)) in
    let rest = slots_by_page gs apart areas (suc k)
    (λ r i j has e. there r (suc i) j has (let q : k + suc i ≡ suc k + i = omega arith in rw q e))
    (λ i j r e. let b = back (suc i) j r e in let q : k + suc i ≡ suc k + i = omega arith in (b.0, rw q at b.1)) in
    weigh-ext (λ r p. area_from k p.slot) (λ r p. at_least 0 (slot_in k p.slot) + area_from (suc k) p.slot) gs apart (λ r has. slot_split k (rec_by gs r).slot)
    ∙ weigh-sum (λ r p. at_least 0 (slot_in k p.slot)) (λ r p. area_from (suc k) p.slot) gs
    ∙ omega (arith, first, rest, sum_by-cons used_in a areas)

pub used-slots : (s : StoreView) → AreApart s.segs → Tied s → used s ≡ used_slots s.swap
used-slots s apart tied =
    sym (weigh-test has_slot s.segs)
    ∙ weigh-ext (λ r p. cond (has_slot p) 1 0) (λ r p. area_from 0 p.slot) s.segs apart (λ r has. by (rec_by s.segs r).slot)
    ∙ slots_by_page s.segs apart s.swap.areas 0
    (λ r i j has e. let z : 0 + i ≡ i = omega arith in ((tied.pages r has).slot_owned (record { area = i; slot = j }) (rw z at e)).1)
    (λ i j r e. let has = tied.slot_owners (record { area = i; slot = j }) r e in let z : 0 + i ≡ i = omega arith in (has, rw z ((tied.pages r has).owner_stored (record { area = i; slot = j }) e)))
  where
    by : (o : Option Slot) → cond (is_some o) 1 0 ≡ area_from 0 o
    by None = refl
    by (Some j) = rw (le-leb 0 j.area (omega arith)) refl

-- fewer pages have slots than there are, where one has none
pub some_slotless : (s : StoreView) → AreApart s.segs → (r : PageRef) → HasPage s.segs r → (rec_by s.segs r).slot ≡ None → used s < sum_by page_count s.segs
some_slotless s apart r has none =
    let all : weigh (λ q p. 1) s.segs ≡ weigh (λ q p. cond (has_slot p) 1 0) s.segs + weigh (λ q p. cond (has_slot p) 0 1) s.segs =
    weigh-ext (λ q p. 1) (λ q p. cond (has_slot p) 1 0 + cond (has_slot p) 0 1) s.segs apart (λ q there. grind (arith, nat_tests))
    ∙ weigh-sum (λ q p. cond (has_slot p) 1 0) (λ q p. cond (has_slot p) 0 1) s.segs in
    let one = weigh-ge (λ q p. cond (has_slot p) 0 1) r s.segs apart has in
    let is : none_if (has_slot (rec_by s.segs r)) ≡ 1 = rw none refl in
    omega (arith, all, one, is, weigh-all s.segs, weigh-test has_slot s.segs)

-- no more pages are resident than are unlocked and resident, and locked
pub unlocked_resident : (s : StoreView) → AreApart s.segs → Tied s → resident s ≤ count_by (passes_by (λ r x. not (locked_by s.segs r.seg))) s.frames + sum_by locked_pages s.segs
unlocked_resident s apart tied =
    let le = weigh-le (λ r p. cond (has_frame p) 1 0) (λ r p. cond (page_passes (λ q x. not (locked_by s.segs q.seg)) s.frames r p.frame) 1 0 + cond (locked_by s.segs r.seg) 1 0) s.segs apart (λ r has. grind (arith, nat_tests)) in
    let sum = weigh-sum (λ r p. cond (page_passes (λ q x. not (locked_by s.segs q.seg)) s.frames r p.frame) 1 0) (λ r p. cond (locked_by s.segs r.seg) 1 0) s.segs in
    let frames = counted_frames s apart tied (λ r x. not (locked_by s.segs r.seg)) in
    omega (arith, le, sum, frames, weigh-locked s.segs apart, weigh-test has_frame s.segs)
