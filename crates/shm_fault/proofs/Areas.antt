-- Pages that leave a swap area, and the area that is turned off.
use Rattle.shm_fault.proofs.Names.{total, ◌≡◌, ◌≢◌, ℕ, zero, suc, ◌<◌, ◌≤◌, ◌+◌, true, cond, List, [], ◌∷◌, length, get_or, set, sum_by, Option, Some, None, is_some, refl, sym, ap, ◌∙◌, inl, inr, arith, length-set, get_or-set_same, get_or-set_other, cases_eq, get_or_past, length-map, sum_by-set, sum_by-cons, PageRef, Slot, pages_in_store, SwapView, no_area, area_at, with_area, off, HasSlot, IsSwap, owner_of, page_in, size_of, sizes, swap_slots, slots_in, used_in, used_slots, without_slot, GoesOn, IsSteady, Frame, no_frame, frame_at, PageRec, rec_by, HasPage, with_rec, StoreView, held, IsTied, Tied, IsStoreSound, Goes, Still, IsUncounted, SameOwned, IsRelocated, IsCleared, common_steps, nat_tests, Clears, Relocates, PagerFault, Ok, Err, places, after_moves, OnlySlot-given, owner-given, cases_slot, size-at, pages-same}
use Rattle.shm_slots.specs.Owners.{used_count}
use Rattle.shm_fault.proofs.Pages.{rec-with, other, other_ne, has-frame, has-slot, by-still, still-with}
use Rattle.shm_fault.proofs.Slots.{set-cases}
use Rattle.shm_fault.proofs.Sound.{SlotsApart, Touches, IsOwn-some, segs-same, segs-with, frames-same, frames-set, tied_touched, bytes_touched, IsSound-from, Goes-refl, Goes-trans, Keeps, every, keeps-every, keeps-one}
use Rattle.shm_fault.proofs.Bytes.{bytes_at, held-same}
use Rattle.shm_fault.proofs.Tally.{used-slots}
use Rattle.shm_fault.proofs.Whole.{pages_in_store-is}
use Rattle.shm_fault.proofs.Counting.{uncounted-trans}
use Rattle.shm_fault.proofs.Placed.{found-free}
use Rattle.shm_fault.proofs.Drops.{GivenSlots, given-slots}
use Rattle.shm_fault.specs.Store.{frame_of}
use Rattle.shm_fault.proofs.Places.{moves-none, moves-then, move-none, move-is, moved-back, moved-away, places-swap, stops-at-move}

pub here-lt : (s : SwapView) (area : ℕ) → (area_at s area).here ≡ true → area < length s.areas
here-lt s area here = grind (arith, get_or_past s.areas area no_area, here)

count-one : (os : List (Option PageRef)) (i : ℕ) (r : PageRef) → get_or os i None ≡ Some r → 1 ≤ used_count os
count-one [] i r e = let h : None ≡ Some r = e in cc
count-one (o ∷ os) zero r e = grind (arith, e, sum_by-cons (λ (p : Option PageRef). cond (is_some p) 1 0) o os)
count-one (o ∷ os) (suc i) r e = grind (arith, count-one os i r e, sum_by-cons (λ (p : Option PageRef). cond (is_some p) 1 0) o os)

-- a free slot is found where the other areas have one for each page
pub has-room : (s : StoreView) → IsStoreSound s → (k : Slot) (r : PageRef) → owner_of s.swap k.area k.slot ≡ Some r → pages_in_store (held s) + length (area_at s.swap k.area).pages ≤ swap_slots s.swap
    → used_slots s.swap + length (area_at s.swap k.area).pages < swap_slots s.swap + used_in (area_at s.swap k.area)
has-room s sound k r own room = grind (arith, nat_tests, common_steps, pages_in_store-is, sound.few_used, used-slots, sound.apart, sound.tied, count-one, s.swap, k.area, k.slot)

-- a resident page gives its slot back
module _ (s : StoreView) (sound : IsStoreSound s) (r : PageRef) (f : ℕ) (k : Slot) (u : SwapView) (place : rec_by s.segs r ≡ record { frame = Some f; slot = Some k }) (given : u ≡ without_slot s.swap k (page_in u k.area k.slot)) where
  pub keeps-back : IsSwap u → IsSteady s.swap u
      → Keeps s (record s { segs = with_rec s.segs r (record { frame = Some f; slot = None }); frames = set s.frames f (record (frame_at s.frames f) { dirty = true }); swap = u })
  keeps-back is steady =
      let at_frame : (rec_by s.segs r).frame ≡ Some f = ap (λ (p : PageRec). p.frame) place in
      let has : HasPage s.segs r = has-frame s.segs r f at_frame in
      let tie-s : IsTied s r = sound.tied.pages r has in
      let own = tie-s.frame_owned f at_frame in
      let p : PageRec = record { frame = Some f; slot = None } in
      let x : Frame = record (frame_at s.frames f) { dirty = true } in
      let t : StoreView = record s { segs = with_rec s.segs r p; frames = set s.frames f x; swap = u } in
      let at : rec_by t.segs r ≡ p = rec-with s.segs r p has in
      let set_at : frame_at (set s.frames f x) f ≡ x = get_or-set_same s.frames f x no_frame own.0 in
      let sl : GivenSlots s r u = given-slots s sound r has u (Some k) (ap (λ (p : PageRec). p.slot) place) given in
      let to : Touches (other r) s t = record {
        segs = segs-with s.segs r p;
        frames = frames-set (other r) s.frames f x (IsOwn-some r _ own.1) (IsOwn-some r _ own.1) (λ none. cc (none, own.1)) sound.tied.free;
        slots = sl.apart;
      } in
      let same : bytes_at t r ≡ bytes_at s r = rw (at, at_frame) (ap (λ (y : Frame). y.bytes) set_at) in
      let tie : IsTied t r = grind (arith, nat_tests, common_steps, s.frames, x, set-cases, set_at, own, at, at_frame, tie-s.owner_resident, sl.none, same, tie-s.whole) in
      keeps-one s t sound r has to is steady.same_sizes (rw (length-set s.frames f x) sound.hand) steady.goes_on tie same

-- a page that is not resident gets another slot
module _ (s : StoreView) (sound : IsStoreSound s) (r : PageRef) (from to : Slot) (u : SwapView) (place : rec_by s.segs r ≡ record { frame = None; slot = Some from }) (is : IsRelocated r from to s.swap u) where
  pub keeps-carried : IsSwap u → sizes u ≡ sizes s.swap → GoesOn s.swap u → Keeps s (record s { segs = with_rec s.segs r (record { frame = None; slot = Some to }); swap = u })
  keeps-carried sw sized goes_on =
      let was_in : (rec_by s.segs r).slot ≡ Some from = ap (λ (p : PageRec). p.slot) place in
      let has : HasPage s.segs r = has-slot s.segs r from was_in in
      let tie-s : IsTied s r = sound.tied.pages r has in
      let p : PageRec = record { frame = None; slot = Some to } in
      let t : StoreView = record s { segs = with_rec s.segs r p; swap = u } in
      let at : rec_by t.segs r ≡ p = rec-with s.segs r p has in
      let own = (tie-s.slot_owned from was_in).1 in
      let not_from : (k : Slot) (q : PageRef) → other r q ≡ true → owner_of s.swap k.area k.slot ≡ Some q → k ≢ from = λ k q off o e. other_ne r q off (cc (own, rw e at o)) in
      let not_to : (k : Slot) (q : PageRef) → owner_of s.swap k.area k.slot ≡ Some q → k ≢ to = λ k q o e. cc (is.first.free, rw e at o) in
      let slots : SlotsApart (other r) s.swap u = record {
        has = λ k q off o. is.has k;
        kept = λ k q off o. (is.owners k (not_from k q off o) (not_to k q o) ∙ o, is.pages k (not_from k q off o) (not_to k q o));
        owners = λ k q off o. elim (cases_slot k to) [
          | inl e ↦ absurd (other_ne r q off (cc (is.owner, rw e at o)))
          | inr n ↦ elim (cases_slot k from) [
            | inl e ↦ cc (is.gone, rw e at o)
            | inr m ↦ sym (is.owners k m n) ∙ o
          ]
        ];
      } in
      let same : bytes_at t r ≡ bytes_at s r = rw (at, place) is.bytes in
      let tie : IsTied t r = record {
        frame_owned = λ g e. cc (rw at at e);
        owner_resident = λ g e. cc (rw place at (tie-s.owner_resident g e));
        slot_owned = λ j e. let q : j ≡ to = cc (rw at at e) in (rw q (is.has to is.first.there), rw q is.owner);
        owner_stored = λ j e. elim (cases_slot j to) [
          | inl q ↦ rw (at, q) refl
          | inr n ↦ elim (cases_slot j from) [
            | inl q ↦ cc (is.gone, rw q at e)
            | inr m ↦ absurd (m (cc (was_in, tie-s.owner_stored j (sym (is.owners j m n) ∙ e))))
          ]
        ];
        clean = λ g e d. cc (rw at at e);
        whole = rw same tie-s.whole;
      } in
      keeps-one s t sound r has (record { segs = segs-with s.segs r p; frames = frames-same s.frames sound.tied.free; slots = slots }) sw sized sound.hand goes_on tie same

-- the slot is free, and no other slot of its area is owned that was not
cleared-only : (k : Slot) (s t : SwapView) → owner_of t k.area k.slot ≡ None → ((slot : ℕ) → record { area = k.area; slot = slot } ≢ k → owner_of s k.area slot ≡ None → owner_of t k.area slot ≡ None) → IsCleared k s t
cleared-only k s t free others = record {
  free = free;
  rest = λ slot e. elim (cases_slot (record { area = k.area; slot = slot }) k) [
    | inl q ↦ let same : slot ≡ k.slot = ap (λ (x : Slot). x.slot) q in rw same free
    | inr n ↦ others slot n e
  ];
}

-- no page moves, and no owned slot changes
pub keeps-owned : (s : StoreView) → IsStoreSound s → (u : SwapView) → SameOwned s.swap u → IsSwap u → sizes u ≡ sizes s.swap → GoesOn s.swap u → Keeps s (record s { swap = u })
keeps-owned s sound u owned is same goes_on =
    let slots : SlotsApart every s.swap u = record { has = λ k q e o. owned.has k; kept = λ k q e o. (owned.owners k ∙ o, owned.pages k q o); owners = λ k q e o. sym (owned.owners k) ∙ o } in
    keeps-every s (record s { swap = u }) sound (record { segs = segs-same s.segs; frames = frames-same s.frames sound.tied.free; slots = slots }) is same sound.hand goes_on

-- A SLOT IS MADE FREE

pub clears-none : {A E : Type 0} (s : StoreView) → IsStoreSound s → (k : Slot) (a : A) → owner_of s.swap k.area k.slot ≡ None → Clears {A = A} {E = E} k s s (Ok a)
unfolding frame_of
clears-none s sound k a none = record {
  goes = Goes-refl s sound;
  still = λ seg page. refl;
  cleared = record { free = none; rest = λ slot e. e };
  rest = record { ins = refl; outs = refl };
  placed = move-none s k none;
  stopped = tt;
  failures = refl;
  sound = sound;
}

module _ (s : StoreView) (sound : IsStoreSound s) (k : Slot) (r : PageRef) (own : owner_of s.swap k.area k.slot ≡ Some r) where
  pub owner-has : HasPage s.segs r
  owner-has = sound.tied.slot_owners k r own

  place-of : (o : Option ℕ) → (rec_by s.segs r).frame ≡ o → rec_by s.segs r ≡ record { frame = o; slot = Some k }
  place-of o at =
      let slot = (sound.tied.pages r owner-has).owner_stored k own in
      let is : record { frame = (rec_by s.segs r).frame; slot = (rec_by s.segs r).slot } ≡ record { frame = o; slot = Some k } = rw (at, slot) refl in
      is

  still-cleared : (o : Option ℕ) (slot : Option Slot) (t : StoreView) → (rec_by s.segs r).frame ≡ o → t.segs ≡ with_rec s.segs r (record { frame = o; slot = slot }) → Still s t
  still-cleared o slot t at segs = by-still s t (λ q. rw segs (still-with s.segs r (record { frame = o; slot = slot }) owner-has (sym at) q))

  -- its page is in a frame, and gives the slot back
  pub clears-back : {A E : Type 0} (a : A) (f : ℕ) (u : SwapView) → (rec_by s.segs r).frame ≡ Some f → HasSlot s.swap k.area k.slot → u ≡ without_slot s.swap k (page_in u k.area k.slot) → IsSwap u → IsSteady s.swap u
      → Clears {A = A} {E = E} k s (record s { segs = with_rec s.segs r (record { frame = Some f; slot = None }); frames = set s.frames f (record (frame_at s.frames f) { dirty = true }); swap = u }) (Ok a)
  clears-back a f u at has given is steady =
      let keeps = keeps-back s sound r f k u (place-of (Some f) at) given is steady in
      let last = page_in u k.area k.slot in
      record {
        goes = keeps.goes;
        still = still-cleared (Some f) None _ at refl;
        cleared = rw given (cleared-only k s.swap (without_slot s.swap k last) (owner-given k s.swap last has.0 (omega (arith, has.1, (sound.swap.each k.area).owned))) (λ slot n e. (OnlySlot-given k s.swap last).owners (record { area = k.area; slot = slot }) n ∙ e));
        rest = record { ins = refl; outs = refl };
        placed = move-is s _ k r (Some f) own at (moved-back s r f k u last given);
        stopped = tt;
        failures = steady.failures;
        sound = keeps.sound;
      }

  -- or it is not, and moves to another area
  pub clears-carried : {A E : Type 0} (a : A) (to : Slot) (u : SwapView) → (rec_by s.segs r).frame ≡ None → Relocates r k s.swap u (Ok to)
      → Clears {A = A} {E = E} k s (record s { segs = with_rec s.segs r (record { frame = None; slot = Some to }); swap = u }) (Ok a)
  clears-carried a to u away moved =
      let keeps = keeps-carried s sound r k to u (place-of None away) moved.ok moved.sound moved.same_sizes moved.goes_on in
      record {
        goes = keeps.goes;
        still = still-cleared None (Some to) _ away refl;
        cleared = cleared-only k s.swap u moved.ok.gone (λ slot n e. moved.ok.owners (record { area = k.area; slot = slot }) n (λ q. moved.ok.first.outside (ap (λ (x : Slot). Some x.area) q)) ∙ e);
        rest = record { ins = refl; outs = refl };
        placed = move-is s _ k r None own away (moved-away s r k to u (found-free s.swap (Some k.area) to sound.swap.each moved.ok.first) moved.owners);
        stopped = tt;
        failures = moved.failures;
        sound = keeps.sound;
      }

  -- or a pager failed for that
  pub clears-not : {A E : Type 0} (u : SwapView) (e : PagerFault) (x : E) → (rec_by s.segs r).frame ≡ None → Relocates r k s.swap u (Err e) → Clears {A = A} k s (record s { swap = u }) (Err x)
  unfolding frame_of
  clears-not u e x away moved =
      let keeps = keeps-owned s sound u moved.err moved.sound moved.same_sizes moved.goes_on in
      record {
        goes = keeps.goes;
        still = λ seg page. refl;
        cleared = tt;
        rest = record { ins = refl; outs = refl };
        placed = tt;
        stopped = stops-at-move s _ k r own away (places-swap s u moved.same);
        failures = moved.failures;
        sound = keeps.sound;
      }

-- an area without owned slots is turned off
module _ (s : StoreView) (sound : IsStoreSound s) (area : ℕ) (here : (area_at s.swap area).here ≡ true) (free : (j : ℕ) → owner_of s.swap area j ≡ None) where
  abbrev without_area : StoreView
  without_area = record s { swap = with_area s.swap area (off (area_at s.swap area)) }

  area-other : (k : Slot) → k.area ≢ area → area_at (with_area s.swap area (off (area_at s.swap area))) k.area ≡ area_at s.swap k.area
  area-other k n = get_or-set_other s.swap.areas area k.area (off (area_at s.swap area)) no_area n

  area-off : area_at (with_area s.swap area (off (area_at s.swap area))) area ≡ off (area_at s.swap area)
  area-off = get_or-set_same s.swap.areas area (off (area_at s.swap area)) no_area (here-lt s.swap area here)

  owned-outside : (k : Slot) (q : PageRef) → owner_of s.swap k.area k.slot ≡ Some q → k.area ≢ area
  owned-outside k q o e = let h : owner_of s.swap area k.slot ≡ Some q = rw e at o in let f = free k.slot in cc

  owned-after : (k : Slot) (q : PageRef) → owner_of without_area.swap k.area k.slot ≡ Some q → owner_of s.swap k.area k.slot ≡ Some q
  owned-after k q o = grind (arith, cases_eq k.area area, area-off, area-other k, o)

  to-off : Touches every s without_area
  to-off = grind (arith, nat_tests, common_steps, segs-same, s.segs, frames-same, s.frames, sound.tied.free, s.swap.areas, s.swap, area-other, owned-outside, owned-after)

  tied-off : Tied without_area
  tied-off = tied_touched every s without_area to-off sound.tied (λ q n h. cc) (λ f q n e. cc) (λ k q n e. cc)

  held-off : held without_area ≡ held s
  held-off = held-same s without_area sound.apart sound.apart refl (λ r has. bytes_touched every s without_area to-off r refl (sound.tied.pages r has))

  sound-off : IsSwap (with_area s.swap area (off (area_at s.swap area))) → sizes (with_area s.swap area (off (area_at s.swap area))) ≡ set (sizes s.swap) area None
      → pages_in_store (held s) + length (area_at s.swap area).pages ≤ swap_slots s.swap → IsStoreSound without_area
  sound-off is same room =
      let lt : area < length (sizes s.swap) = rw (length-map s.swap.areas size_of) (here-lt s.swap area here) in
      let sum = sum_by-set slots_in (sizes s.swap) area None None lt in
      let size : slots_in (get_or (sizes s.swap) area None) ≡ length (area_at s.swap area).pages = rw (size-at s.swap area, here) refl in
      let after : swap_slots without_area.swap ≡ sum_by slots_in (set (sizes s.swap) area None) = ap (λ l. sum_by slots_in l) same in
      let all = pages_in_store-is s sound in
      IsSound-from without_area tied-off sound.apart sound.frames is sound.hand
      (omega (arith, sum, size, after, all, room))
      sound.locked

-- the first slots of an area are free, and all else is as it was
pub record IsCleaned (area n : ℕ) (s t : StoreView) : Type 0 where
  pub sound : IsStoreSound t
  pub goes : Goes s t
  pub still : Still s t
  pub rest : IsUncounted s t
  pub failures : total t.swap ≡ total s.swap
  pub free : (slot : ℕ) → slot < n → owner_of t.swap area slot ≡ None
  pub placed : places t ≡ after_moves area n (places s)

pub cleaned-none : (area : ℕ) (s : StoreView) → IsStoreSound s → IsCleaned area 0 s s
unfolding frame_of
cleaned-none area s sound = record {
  sound = sound;
  goes = Goes-refl s sound;
  still = λ seg page. refl;
  rest = record { ins = refl; outs = refl };
  failures = refl;
  free = λ slot lt. absurd (omega (arith, lt));
  placed = moves-none area (places s);
}

pub cleaned-more : {A E : Type 0} (area n : ℕ) (s t u : StoreView) (a : A) → IsCleaned area n s t → Clears {A = A} {E = E} (record { area = area; slot = n }) t u (Ok a) → IsCleaned area (n + 1) s u
cleaned-more area n s t u a d clears = record {
  sound = clears.sound;
  goes = Goes-trans s t u d.goes clears.goes;
  still = λ seg page. clears.still seg page ∙ d.still seg page;
  rest = uncounted-trans s t u d.rest clears.rest;
  failures = clears.failures ∙ d.failures;
  free = λ slot lt. grind (arith, nat_tests, common_steps, clears.cleared.free, clears.cleared.rest, d.free);
  placed = moves-then area n (places s) (places t) (places u) d.placed clears.placed;
}

module _ (area n : ℕ) (s t : StoreView) (d : IsCleaned area n s t) (here : (area_at s.swap area).here ≡ true) where
  cleaned-here : ((area_at t.swap area).here ≡ true) × (length (area_at t.swap area).pages ≡ length (area_at s.swap area).pages)
  cleaned-here = pages-same s.swap t.swap area d.goes.same_sizes here

  pub cleaned-there : n < length (area_at s.swap area).pages → HasSlot t.swap area n
  cleaned-there lt = let same = cleaned-here.1 in (here-lt t.swap area cleaned-here.0, omega (arith, lt, same))

  pub cleaned-room : pages_in_store (held s) + length (area_at s.swap area).pages ≤ swap_slots s.swap → pages_in_store (held t) + length (area_at t.swap area).pages ≤ swap_slots t.swap
  cleaned-room room = grind (arith, nat_tests, common_steps, cleaned-here.1, d.goes.bytes, t.swap, s.swap, sum_by, d.goes.same_sizes)

  -- the area is turned off after its slots are free
  module _ (all : length (area_at s.swap area).pages ≤ n) where
    pub cleaned-free : (slot : ℕ) → owner_of t.swap area slot ≡ None
    cleaned-free slot = grind (arith, nat_tests, common_steps, d.free, get_or_past, t.swap, cleaned-here.1, d.sound.swap.each)

    pub cleaned-off : (u : SwapView) → u ≡ with_area t.swap area (off (area_at t.swap area)) → IsSwap u → sizes u ≡ set (sizes t.swap) area None
        → pages_in_store (held s) + length (area_at s.swap area).pages ≤ swap_slots s.swap → IsStoreSound (record t { swap = u }) × (held (record t { swap = u }) ≡ held s)
    cleaned-off u gone is sized room =
        let sized₁ : sizes (with_area t.swap area (off (area_at t.swap area))) ≡ set (sizes t.swap) area None = rw gone at sized in
        rw gone (sound-off t d.sound area cleaned-here.0 cleaned-free (rw gone at is) sized₁ (cleaned-room room), held-off t d.sound area cleaned-here.0 cleaned-free ∙ d.goes.bytes)
