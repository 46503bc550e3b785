-- Changes of the swap alone: of what areas will count, and one more area.
use Rattle.shm_fault.proofs.Names.{◌≡◌, refl, ap, arith, SwapView, IsSwap, SameSlots, sizes, swap_slots, StoreView, held, Tied, IsStoreSound, ℕ, zero, suc, ◌<◌, ◌≤◌, List, [], ◌∷◌, length, get_or, sum_by, Option, Some, None, sym, ◌∙◌, sum_by-cons, PageRef, Slot, no_area, HasSlot, size_of, slots_in, map, replicate, ◌++◌, length-append, get_or_past, get_or-replicate, length-replicate, Result, Ok, Err, OnErr, OnOk, PagerView, none-some, AreaView, fresh, with_new}
use Rattle.shm_fault.proofs.Sound.{Touches, segs-same, frames-same, tied_touched, bytes_touched, IsSound-from, every, slots-kept, SlotsApart}
use Rattle.shm_fault.proofs.Bytes.{held-same}
use Rattle.shm_base.specs.Segments.{slots}

module _ (s : StoreView) (sound : IsStoreSound s) (u : SwapView) (same : SameSlots s.swap u) (is : IsSwap u) (size : sizes u ≡ sizes s.swap) where
  abbrev after : StoreView
  after = record s { swap = u }

  to-after : Touches every s after
  to-after = record { segs = segs-same s.segs; frames = frames-same s.frames sound.tied.free; slots = slots-kept s.swap u same }

  tied-after : Tied after
  tied-after = tied_touched every s after to-after sound.tied (λ q n h. cc) (λ f q n e. cc) (λ k q n e. cc)

  pub held-failing : held after ≡ held s
  held-failing = held-same s after sound.apart sound.apart refl (λ r has. bytes_touched every s after to-after r refl (sound.tied.pages r has))

  pub sound-failing : IsStoreSound after
  sound-failing =
      let room = sound.capacity in
      let same_room : swap_slots u ≡ swap_slots s.swap = ap slots size in
      IsSound-from after tied-after sound.apart sound.frames is sound.hand (omega (arith, room, same_room)) sound.locked

-- ONE MORE SWAP AREA: THE SLOTS THAT WERE THERE STAY, AND NO PAGE OWNS A NEW ONE

front : (xs : List AreaView) (a : AreaView) (i : ℕ) → i < length xs → get_or (xs ++ a ∷ []) i no_area ≡ get_or xs i no_area
front [] a i lt = absurd (omega (arith, lt))
front (x ∷ xs) a zero lt = refl
front (x ∷ xs) a (suc i) lt = front xs a i (omega (arith, lt))

same-owners :
    (xs : List AreaView) (a : AreaView) (i j : ℕ) → ((slot : ℕ) → get_or a.owners slot None ≡ None)
    → get_or (get_or (xs ++ a ∷ []) i no_area).owners j None ≡ get_or (get_or xs i no_area).owners j None
same-owners [] a zero j free = free j
same-owners [] a (suc i) j free = refl
same-owners (x ∷ xs) a zero j free = refl
same-owners (x ∷ xs) a (suc i) j free = same-owners xs a i j free

owned-there : (xs : List AreaView) (i j : ℕ) (q : PageRef) → get_or (get_or xs i no_area).owners j None ≡ Some q → i < length xs
owned-there [] i j q owned = absurd (none-some q owned)
owned-there (x ∷ xs) zero j q owned = omega arith
owned-there (x ∷ xs) (suc i) j q owned = let lt = owned-there xs i j q owned in omega (arith, lt)

grown : (xs : List AreaView) (a : AreaView) → sum_by slots_in (map size_of xs) ≤ sum_by slots_in (map size_of (xs ++ a ∷ []))
grown [] a = omega arith
grown (x ∷ xs) a =
    let more = grown xs a in
    let one = sum_by-cons slots_in (size_of x) (map size_of xs) in
    let two = sum_by-cons slots_in (size_of x) (map size_of (xs ++ a ∷ [])) in
    omega (arith, more, one, two)

module _ (s : StoreView) (sound : IsStoreSound s) (a : AreaView) (free : (slot : ℕ) → get_or a.owners slot None ≡ None) where
  abbrev more : StoreView
  more = record s { swap = with_new s.swap a }

  has : (k : Slot) → HasSlot s.swap k.area k.slot → HasSlot more.swap k.area k.slot
  has k there =
      let lt = there.0 in
      let size = length-append s.swap.areas (a ∷ []) in
      (omega (arith, lt, size), rw (front s.swap.areas a k.area there.0) there.1)

  slots-apart : SlotsApart every s.swap more.swap
  slots-apart = record {
    has = λ k q e o there. has k there;
    kept = λ k q e o.
        (same-owners s.swap.areas a k.area k.slot free ∙ o, rw (front s.swap.areas a k.area (owned-there s.swap.areas k.area k.slot q o)) refl);
    owners = λ k q e o. sym (same-owners s.swap.areas a k.area k.slot free) ∙ o;
  }

  to-more : Touches every s more
  to-more = record { segs = segs-same s.segs; frames = frames-same s.frames sound.tied.free; slots = slots-apart }

  tied-more : Tied more
  tied-more = tied_touched every s more to-more sound.tied (λ q n h. cc) (λ f q n e. cc) (λ k q n e. cc)

  pub held-more : held more ≡ held s
  held-more = held-same s more sound.apart sound.apart refl (λ r has. bytes_touched every s more to-more r refl (sound.tied.pages r has))

  pub sound-more : IsSwap more.swap → IsStoreSound more
  sound-more is =
      let room = sound.capacity in
      let wider = grown s.swap.areas a in
      IsSound-from more tied-more sound.apart sound.frames is sound.hand (omega (arith, room, wider)) sound.locked

abbrev nobody : Option PageRef
nobody = None

none-owned : (n slot : ℕ) → get_or (replicate n nobody) slot nobody ≡ nobody
none-owned n slot = grind (arith, get_or-replicate n slot nobody nobody, get_or_past (replicate n nobody) slot nobody, length-replicate n nobody)

-- an area was added, or the host refused memory
pub added : {A E : Type 0} (s : StoreView) (r : Result A E) (p : PagerView) (u : SwapView) → IsStoreSound s → OnOk r (u ≡ with_new s.swap (fresh p)) → OnErr r (u ≡ s.swap) → OnOk r (IsSwap u)
    → IsStoreSound (record s { swap = u }) × (held (record s { swap = u }) ≡ held s)
added s (Ok a) p u sound is same swap =
    let free = none-owned (length p.pages) in
    rw is (sound-more s sound (fresh p) free (rw is at swap), held-more s sound (fresh p) free)
added s (Err e) p u sound is same swap = rw same (sound, refl)
