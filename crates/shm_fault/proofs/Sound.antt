-- What is true of every store: a change that touches few pages keeps all others tied, and each step of a page keeps it.
use Rattle.shm_fault.proofs.Names.{◌≡◌, ℕ, Bool, true, false, List, length, set, Option, Some, None, refl, arith, cases_Bool, PageRef, Slot, SwapView, HasSlot, owner_of, page_in, Frame, frame_at, PageRec, SegRec, rec_by, HasPage, with_rec, StoreView, slot_bytes, bytes_by, page_bytes, IsTied, Tied, outlines, Alike, common_steps, nat_tests, ◌<◌, ◌≤◌, ◌+◌, cond, sum_by, is_some, ap, ◌∙◌, sym, inl, inr, false≢true, some_spent, CountsFailure, sum_by-le-sum_by, count_by-le-length, IsSwap, swap_slots, sizes, slots_in, GoesOn, had_cause, AreApart, page_count, locked_pages, IsStoreSound, Goes, KeepsLocked, ◌≢◌, length-set, get_or-set_same, set-get_or, set-set, IsSome, SameSlots, with_slot_owner, no_frame, StaysAway, MOST_FRAMES, OnlySlot, cases_slot, OnlySlot-owner, owner-set, spent-cause, cause-before}
use Rattle.shm_fault.proofs.Pages.{has-same, outlines-with, rec-with_other, other, other-self, has-frame, apart-same, sum_pages-same, sum_locked-same, locked-same, has-slot, rec-with, still-with, cases_ref, other-false, other-true, rec-past}
use Rattle.shm_fault.proofs.Slots.{set-cases}
use Rattle.shm_fault.proofs.Tally.{resident-frames}
use Rattle.shm_fault.proofs.Bytes.{bytes_at, held-same}
pub use Rattle.shm_slots.proofs.Causes.{GoesOn-refl, GoesOn-trans}

pub Alike-refl : (x : Frame) → Alike x x
Alike-refl x = record { owner = refl; bytes = refl; dirty = refl }

-- of the pages that the test names, nothing changed but referenced bits: neither where they are,
pub record SegsApart (off : PageRef → Bool) (gs hs : List SegRec) : Type 0 where
  pub shape : outlines hs ≡ outlines gs
  pub recs : (q : PageRef) → off q ≡ true → rec_by hs q ≡ rec_by gs q

-- nor their frames,
pub record FramesApart (off : PageRef → Bool) (fs gs : List Frame) : Type 0 where
  pub size : length gs ≡ length fs
  pub alike : (f : ℕ) (q : PageRef) → off q ≡ true → (frame_at fs f).owner ≡ Some q → Alike (frame_at fs f) (frame_at gs f)
  pub owners : (f : ℕ) (q : PageRef) → off q ≡ true → (frame_at gs f).owner ≡ Some q → (frame_at fs f).owner ≡ Some q
  pub free : (f : ℕ) → (frame_at gs f).owner ≡ None → (frame_at gs f).dirty ≡ false

-- nor their slots
pub record SlotsApart (off : PageRef → Bool) (s u : SwapView) : Type 0 where
  pub has : (k : Slot) (q : PageRef) → off q ≡ true → owner_of s k.area k.slot ≡ Some q → HasSlot s k.area k.slot → HasSlot u k.area k.slot
  pub kept : (k : Slot) (q : PageRef) → off q ≡ true → owner_of s k.area k.slot ≡ Some q → (owner_of u k.area k.slot ≡ Some q) × (page_in u k.area k.slot ≡ page_in s k.area k.slot)
  pub owners : (k : Slot) (q : PageRef) → off q ≡ true → owner_of u k.area k.slot ≡ Some q → owner_of s k.area k.slot ≡ Some q

pub record Touches (off : PageRef → Bool) (s t : StoreView) : Type 0 where
  pub segs : SegsApart off s.segs t.segs
  pub frames : FramesApart off s.frames t.frames
  pub slots : SlotsApart off s.swap t.swap

pub segs-same : {off : PageRef → Bool} (gs : List SegRec) → SegsApart off gs gs
segs-same gs = record { shape = refl; recs = λ q e. refl }

pub segs-with : (gs : List SegRec) (r : PageRef) (p : PageRec) → SegsApart (other r) gs (with_rec gs r p)
segs-with gs r p = record { shape = outlines-with gs r p; recs = λ q e. rec-with_other gs r q p e }

pub frames-same : {off : PageRef → Bool} (fs : List Frame) → ((f : ℕ) → (frame_at fs f).owner ≡ None → (frame_at fs f).dirty ≡ false) → FramesApart off fs fs
frames-same fs free = record { size = refl; alike = λ f q e o. Alike-refl (frame_at fs f); owners = λ f q e o. o; free = free }

pub slots-same : {off : PageRef → Bool} (s : SwapView) → SlotsApart off s s
slots-same s = record { has = λ k q e o h. h; kept = λ k q e o. (o, refl); owners = λ k q e o. o }

-- one page's place looked up in other segments
pub tied-segs : (s : StoreView) (segs : List SegRec) (r : PageRef) → rec_by segs r ≡ rec_by s.segs r → IsTied s r → IsTied (record s { segs = segs }) r
tied-segs s segs r same tie = grind (arith, nat_tests, common_steps, tie.frame_owned, tie.owner_resident, tie.slot_owned, tie.owner_stored, tie.clean, tie.whole)

module _ (off : PageRef → Bool) (s t : StoreView) (to : Touches off s t) where
  stored-off : (q : PageRef) → off q ≡ true → IsTied s q → (o : Option Slot) → (rec_by s.segs q).slot ≡ o → slot_bytes t.swap o ≡ slot_bytes s.swap o
  stored-off q is tie None e = refl
  stored-off q is tie (Some k) e = (to.slots.kept k q is (tie.slot_owned k e).1).1

  bytes-off : (q : PageRef) → off q ≡ true → IsTied s q → (o : Option ℕ) → (rec_by s.segs q).frame ≡ o → bytes_by t.frames t.swap o (rec_by s.segs q).slot ≡ bytes_by s.frames s.swap o (rec_by s.segs q).slot
  bytes-off q is tie None e = stored-off q is tie (rec_by s.segs q).slot refl
  bytes-off q is tie (Some f) e = (to.frames.alike f q is (tie.frame_owned f e).1).bytes

  -- the bytes of the pages that were not touched
  pub bytes_touched : (q : PageRef) → off q ≡ true → IsTied s q → page_bytes t.frames t.swap (rec_by t.segs q) ≡ page_bytes s.frames s.swap (rec_by s.segs q)
  bytes_touched q is tie = rw (to.segs.recs q is) (bytes-off q is tie (rec_by s.segs q).frame refl)

  pub tied_off : (q : PageRef) → off q ≡ true → IsTied s q → IsTied t q
  tied_off q is tie = grind (arith, nat_tests, tie.frame_owned, rec_by s.segs q, stored-off, tie.clean, bytes_touched q is tie, tie.whole)

  -- all pages stay tied, if those that were touched are
  pub tied_touched : Tied s → ((q : PageRef) → off q ≡ false → HasPage s.segs q → IsTied t q)
      → ((f : ℕ) (q : PageRef) → off q ≡ false → (frame_at t.frames f).owner ≡ Some q → HasPage s.segs q)
      → ((k : Slot) (q : PageRef) → off q ≡ false → owner_of t.swap k.area k.slot ≡ Some q → HasPage s.segs q) → Tied t
  tied_touched tied here own_frame own_slot = grind (arith, nat_tests, has-same, cases_Bool, tied_off)

-- the owner is a page that may be touched, or none
abbrev pub IsOwn : (PageRef → Bool) → Option PageRef → Type 0
IsOwn off o = (q : PageRef) → o ≡ Some q → off q ≡ false

pub IsOwn-none : (off : PageRef → Bool) (o : Option PageRef) → o ≡ None → IsOwn off o
IsOwn-none off o e q h = cc

pub IsOwn-some : (r : PageRef) (o : Option PageRef) → o ≡ Some r → IsOwn (other r) o
IsOwn-some r o e q h = let same : q ≡ r = cc in rw same (other-self r)

-- one frame is set; its owner was and is such a page, or none
pub frames-set : (off : PageRef → Bool) (frames : List Frame) (f : ℕ) (x : Frame) → IsOwn off (frame_at frames f).owner → IsOwn off x.owner → (x.owner ≡ None → x.dirty ≡ false)
    → ((g : ℕ) → (frame_at frames g).owner ≡ None → (frame_at frames g).dirty ≡ false) → FramesApart off frames (set frames f x)
frames-set off frames f x was is clean free = grind (arith, nat_tests, common_steps, set-cases)

-- slots of which one may have another page or owner; that is such a page, or none
pub slots-only : (off : PageRef → Bool) (k : Slot) (s u : SwapView) → OnlySlot k s u → IsOwn off (owner_of s k.area k.slot) → IsOwn off (owner_of u k.area k.slot) → SlotsApart off s u
slots-only off k s u only was is = grind (arith, nat_tests, cases_slot, only.owners, only.pages)

-- WHAT IS TRUE OF EVERY STORE, KEPT BY A CHANGE THAT TOUCHES FEW PAGES

-- a page and the frame that it is in
pub frame-own : (s : StoreView) → IsStoreSound s → (r : PageRef) (f : ℕ) → (rec_by s.segs r).frame ≡ Some f → (f < length s.frames) × ((frame_at s.frames f).owner ≡ Some r)
frame-own s sound r f at = (sound.tied.pages r (has-frame s.segs r f at)).frame_owned f at

-- and the slot
pub slot-own : (s : StoreView) → IsStoreSound s → (r : PageRef) (k : Slot) → (rec_by s.segs r).slot ≡ Some k → HasSlot s.swap k.area k.slot × (owner_of s.swap k.area k.slot ≡ Some r)
slot-own s sound r k at = (sound.tied.pages r (has-slot s.segs r k at)).slot_owned k at

-- the counts follow from the rest
pub IsSound-from : (s : StoreView) → Tied s → AreApart s.segs → (2 ≤ length s.frames) × (length s.frames ≤ MOST_FRAMES) → IsSwap s.swap → s.hand < length s.frames
    → sum_by page_count s.segs ≤ swap_slots s.swap → sum_by locked_pages s.segs + 2 ≤ length s.frames → IsStoreSound s
IsSound-from s tied apart frames swap hand capacity locked = grind (arith, nat_tests, common_steps, resident-frames, count_by-le-length, is_some, s.frames, sum_by-le-sum_by, s.segs, cond)

-- a change that touches few pages
module _ (off : PageRef → Bool) (s t : StoreView) (sound : IsStoreSound s) (to : Touches off s t) (swap : IsSwap t.swap) (same : sizes t.swap ≡ sizes s.swap) (hand : t.hand < length t.frames)
    (here : (q : PageRef) → off q ≡ false → HasPage s.segs q → IsTied t q)
    (own_frame : (f : ℕ) (q : PageRef) → off q ≡ false → (frame_at t.frames f).owner ≡ Some q → HasPage s.segs q)
    (own_slot : (k : Slot) (q : PageRef) → off q ≡ false → owner_of t.swap k.area k.slot ≡ Some q → HasPage s.segs q) where
  pub sound-touched : IsStoreSound t
  sound-touched = IsSound-from t
      (tied_touched off s t to sound.tied here own_frame own_slot)
      (apart-same s.segs t.segs to.segs.shape sound.apart)
      (rw to.frames.size sound.frames)
      swap hand
      (let p = sum_pages-same s.segs t.segs to.segs.shape in let z : swap_slots t.swap ≡ swap_slots s.swap = ap (λ l. sum_by slots_in l) same in omega (arith, p, z, sound.capacity))
      (let p = sum_locked-same s.segs t.segs to.segs.shape in omega (arith, p, to.frames.size, sound.locked))

  pub goes-touched : GoesOn s.swap t.swap → ((q : PageRef) → off q ≡ false → HasPage s.segs q → bytes_at t q ≡ bytes_at s q) → Goes s t
  goes-touched goes_on bytes = grind (arith, held-same, apart-same, bytes_touched, spent-cause)

pub Goes-refl : (s : StoreView) → IsStoreSound s → Goes s s
Goes-refl s sound = record { bytes = refl; shape = refl; size = refl; goes_on = GoesOn-refl s.swap; same_sizes = refl; spent = spent-cause s.swap s.swap sound.swap (GoesOn-refl s.swap) }

pub Goes-trans : (s t u : StoreView) → Goes s t → Goes t u → Goes s u
Goes-trans s t u a b = record {
  bytes = b.bytes ∙ a.bytes;
  shape = b.shape ∙ a.shape;
  size = b.size ∙ a.size;
  goes_on = GoesOn-trans s.swap t.swap u.swap a.goes_on b.goes_on;
  same_sizes = b.same_sizes ∙ a.same_sizes;
  spent = λ e. cause-before s.swap t.swap u.swap a.spent a.goes_on b.goes_on (b.spent e);
}

-- a step that failed had a cause: it counted a failure, or an area is spent
pub cause-of : (ok : Bool) (s t : StoreView) → Goes s t → CountsFailure ok s t → ok ≡ false → had_cause s.swap t.swap ≡ true
cause-of true s t goes failures e = absurd (false≢true (sym e))
cause-of false s t goes failures e = elim (cases_Bool (some_spent t.swap)) [
  | inl spent ↦ goes.spent spent
  | inr unspent ↦ let more = failures unspent in grind (arith, nat_tests, more)
]

pub KeepsLocked-trans : (s t u : StoreView) → outlines t.segs ≡ outlines s.segs → KeepsLocked s t → KeepsLocked t u → KeepsLocked s u
KeepsLocked-trans s t u shape a b r locked e = b r (rw (locked-same s.segs t.segs r.seg shape) locked) (a r locked e)

-- EACH STEP OF A PAGE FROM ONE PLACE TO ANOTHER, AND WHAT IT KEEPS

-- the page of a frame that has one
pub record Own (o : Option PageRef) : Type 0 where
  pub page : PageRef
  pub is : o ≡ Some page

pub own : (o : Option PageRef) → IsSome o → Own o
own None e = cc
own (Some r) e = record { page = r; is = refl }

-- sound, and all bytes kept
pub record Keeps (s t : StoreView) : Type 0 where
  pub sound : IsStoreSound t
  pub goes : Goes s t

pub some_same : {X : Type 0} (x y : X) (o : Option X) → o ≡ Some x → o ≡ Some y → y ≡ x
some_same x y o a b = cc

-- one page is touched
module _ (s t : StoreView) (sound : IsStoreSound s) (r : PageRef) (has : HasPage s.segs r) (to : Touches (other r) s t) (swap : IsSwap t.swap) (same : sizes t.swap ≡ sizes s.swap) (hand : t.hand < length t.frames) (goes_on : GoesOn s.swap t.swap) (tie : IsTied t r) where
  here : (q : PageRef) → other r q ≡ false → HasPage s.segs q → IsTied t q
  here q on h = let e = other-false r q on in rw e tie

  own_frame : (f : ℕ) (q : PageRef) → other r q ≡ false → (frame_at t.frames f).owner ≡ Some q → HasPage s.segs q
  own_frame f q on h = let e = other-false r q on in rw e has

  own_slot : (k : Slot) (q : PageRef) → other r q ≡ false → owner_of t.swap k.area k.slot ≡ Some q → HasPage s.segs q
  own_slot k q on h = let e = other-false r q on in rw e has

  pub sound-one : IsStoreSound t
  sound-one = sound-touched (other r) s t sound to swap same hand here own_frame own_slot

  pub keeps-one : bytes_at t r ≡ bytes_at s r → Keeps s t
  keeps-one bytes = record {
    sound = sound-one;
    goes = goes-touched (other r) s t sound to swap same hand here own_frame own_slot goes_on (λ q on h. let e = other-false r q on in rw e bytes);
  }

-- no page is touched
abbrev pub every : PageRef → Bool
every q = true

pub keeps-every : (s t : StoreView) → IsStoreSound s → Touches every s t → IsSwap t.swap → sizes t.swap ≡ sizes s.swap → t.hand < length t.frames → GoesOn s.swap t.swap → Keeps s t
keeps-every s t sound to is same hand goes_on = grind (arith, nat_tests, common_steps, sound-touched, every, goes-touched)

pub slots-kept : {off : PageRef → Bool} (s u : SwapView) → SameSlots s u → SlotsApart off s u
slots-kept s u kept = grind (arith, nat_tests, common_steps, kept.areas, kept.pages, kept.owners)

-- frames are alike, and all else but the hand is as it was
pub keeps-alike : (s : StoreView) → IsStoreSound s → (frames : List Frame) (hand : ℕ) → length frames ≡ length s.frames → ((f : ℕ) → Alike (frame_at s.frames f) (frame_at frames f)) → hand < length frames
    → Keeps s (record s { frames = frames; hand = hand })
keeps-alike s sound frames hand size alike on =
    let apart : FramesApart every s.frames frames = grind (arith, nat_tests, common_steps, sound.tied.free) in
    keeps-every s (record s { frames = frames; hand = hand }) sound (record { segs = segs-same s.segs; frames = apart; slots = slots-same s.swap }) sound.swap refl on (GoesOn-refl s.swap)

-- a resident page's frame was written to its slot, or the try failed
module _ (s : StoreView) (sound : IsStoreSound s) (r : PageRef) (f : ℕ) (k : Slot) (x : Frame) (u : SwapView) (ins outs : ℕ)
    (owned : (frame_at s.frames f).owner ≡ Some r) (slot : (rec_by s.segs r).slot ≡ Some k)
    (x_owner : x.owner ≡ Some r) (x_bytes : x.bytes ≡ (frame_at s.frames f).bytes)
    (only : OnlySlot k s.swap u) (owner : owner_of u k.area k.slot ≡ owner_of s.swap k.area k.slot)
    (clean : x.dirty ≡ false → x.bytes ≡ page_in u k.area k.slot) where
  pub keeps-write : IsSwap u → sizes u ≡ sizes s.swap → GoesOn s.swap u → Keeps s (record { segs = s.segs; frames = set s.frames f x; hand = s.hand; swap = u; ins = ins; outs = outs })
  keeps-write is same goes_on =
      let has : HasPage s.segs r = sound.tied.owners f r owned in
      let tie-s : IsTied s r = sound.tied.pages r has in
      let at_frame : (rec_by s.segs r).frame ≡ Some f = tie-s.owner_resident f owned in
      let lt : f < length s.frames = (tie-s.frame_owned f at_frame).0 in
      let own = (tie-s.slot_owned k slot).1 in
      let t : StoreView = record { segs = s.segs; frames = set s.frames f x; hand = s.hand; swap = u; ins = ins; outs = outs } in
      let set_at : frame_at (set s.frames f x) f ≡ x = get_or-set_same s.frames f x no_frame lt in
      let to : Touches (other r) s t = record {
        segs = segs-same s.segs;
        frames = frames-set (other r) s.frames f x (IsOwn-some r _ owned) (IsOwn-some r _ x_owner) (λ none. cc) sound.tied.free;
        slots = slots-only (other r) k s.swap u only (IsOwn-some r _ own) (IsOwn-some r _ (owner ∙ own));
      } in
      let bytes : bytes_at t r ≡ bytes_at s r = rw at_frame (ap (λ (y : Frame). y.bytes) set_at ∙ x_bytes) in
      let tie : IsTied t r = record {
        frame_owned = λ g e. let q : g ≡ f = cc (at_frame, e) in (rw (q, length-set s.frames f x) lt, rw (q, set_at) x_owner);
        owner_resident = λ g e. grind (arith, nat_tests, common_steps, set-cases, s.frames, at_frame, tie-s.owner_resident);
        slot_owned = λ j e. let q : j ≡ k = cc (slot, e) in (only.has j (tie-s.slot_owned j e).0, rw q (owner ∙ own));
        owner_stored = λ j e. elim (cases_slot j k) [
          | inl q ↦ rw q slot
          | inr n ↦ tie-s.owner_stored j (sym (only.owners j n) ∙ e)
        ];
        clean = λ g e d. grind (arith, nat_tests, common_steps, at_frame, x.dirty, set_at);
        whole = rw bytes tie-s.whole;
      } in
      keeps-one s t sound r has to is same (rw (length-set s.frames f x) sound.hand) goes_on tie bytes

-- a page in a dirty frame gets a slot
pub record Takes (f : ℕ) (k : Slot) (s t : StoreView) : Type 0 where
  pub sound : IsStoreSound t
  pub goes : Goes s t
  pub slot : (q : PageRef) → (frame_at s.frames f).owner ≡ Some q → (rec_by t.segs q).slot ≡ Some k
  pub still : (r : PageRef) → (rec_by t.segs r).frame ≡ (rec_by s.segs r).frame
  pub away : StaysAway s t

module _ (s : StoreView) (sound : IsStoreSound s) (r : PageRef) (f : ℕ) (k : Slot)
    (owned : (frame_at s.frames f).owner ≡ Some r) (dirty : (frame_at s.frames f).dirty ≡ true) (none : (rec_by s.segs r).slot ≡ None)
    (there : HasSlot s.swap k.area k.slot) (free : owner_of s.swap k.area k.slot ≡ None) where
  has-ts : HasPage s.segs r
  has-ts = sound.tied.owners f r owned

  tie-ts : IsTied s r
  tie-ts = sound.tied.pages r has-ts

  keeps-take : IsSwap (with_slot_owner s.swap k (Some r)) → sizes (with_slot_owner s.swap k (Some r)) ≡ sizes s.swap → GoesOn s.swap (with_slot_owner s.swap k (Some r))
      → Keeps s (record s { segs = with_rec s.segs r (record { frame = (rec_by s.segs r).frame; slot = Some k }); swap = with_slot_owner s.swap k (Some r) })
  keeps-take is same goes_on =
      let p : PageRec = record { frame = (rec_by s.segs r).frame; slot = Some k } in
      let u : SwapView = with_slot_owner s.swap k (Some r) in
      let t : StoreView = record s { segs = with_rec s.segs r p; swap = u } in
      let at : rec_by t.segs r ≡ p = rec-with s.segs r p has-ts in
      let at_frame : (rec_by s.segs r).frame ≡ Some f = tie-ts.owner_resident f owned in
      let only : OnlySlot k s.swap u = OnlySlot-owner k s.swap (Some r) in
      let own : owner_of u k.area k.slot ≡ Some r = owner-set k s.swap (Some r) there.0 (omega (arith, there.1, (sound.swap.each k.area).owned)) in
      let to : Touches (other r) s t = record {
        segs = segs-with s.segs r p;
        frames = frames-same s.frames sound.tied.free;
        slots = slots-only (other r) k s.swap u only (IsOwn-none (other r) _ free) (IsOwn-some r _ own);
      } in
      let bytes : bytes_at t r ≡ bytes_at s r = rw (at, at_frame) refl in
      let tie : IsTied t r = grind (arith, nat_tests, common_steps, tie-ts.frame_owned, tie-ts.owner_resident, only.has, own, cases_slot, tie-ts.owner_stored, only.owners, at_frame, bytes, tie-ts.whole) in
      keeps-one s t sound r has-ts to is same sound.hand goes_on tie bytes

  pub takes : IsSwap (with_slot_owner s.swap k (Some r)) → sizes (with_slot_owner s.swap k (Some r)) ≡ sizes s.swap → GoesOn s.swap (with_slot_owner s.swap k (Some r))
      → Takes f k s (record s { segs = with_rec s.segs r (record { frame = (rec_by s.segs r).frame; slot = Some k }); swap = with_slot_owner s.swap k (Some r) })
  takes is same goes_on = grind (arith, nat_tests, common_steps, s.segs, keeps-take, tie-ts.owner_resident, some_same, s.frames, rec-with, has-ts, still-with, cases_ref, rec-with_other)

-- a page in a clean frame leaves it
module _ (s : StoreView) (sound : IsStoreSound s) (r : PageRef) (f : ℕ) (bytes : List ℕ) (owned : (frame_at s.frames f).owner ≡ Some r) (clean : (frame_at s.frames f).dirty ≡ false) where
  pub keeps-vacate : Keeps s (record s { segs = with_rec s.segs r (record { frame = None; slot = (rec_by s.segs r).slot }); frames = set s.frames f (record no_frame { bytes = bytes }) })
  keeps-vacate =
      let has : HasPage s.segs r = sound.tied.owners f r owned in
      let tie-s : IsTied s r = sound.tied.pages r has in
      let p : PageRec = record { frame = None; slot = (rec_by s.segs r).slot } in
      let x : Frame = record no_frame { bytes = bytes } in
      let t : StoreView = record s { segs = with_rec s.segs r p; frames = set s.frames f x } in
      let at : rec_by t.segs r ≡ p = rec-with s.segs r p has in
      let at_frame : (rec_by s.segs r).frame ≡ Some f = tie-s.owner_resident f owned in
      let lt : f < length s.frames = (tie-s.frame_owned f at_frame).0 in
      let to : Touches (other r) s t = record {
        segs = segs-with s.segs r p;
        frames = frames-set (other r) s.frames f x (IsOwn-some r _ owned) (IsOwn-none (other r) _ refl) (λ none. refl) sound.tied.free;
        slots = slots-same s.swap;
      } in
      let same : bytes_at t r ≡ bytes_at s r = rw (at, at_frame) (sym (tie-s.clean f at_frame clean)) in
      let tie : IsTied t r = grind (arith, nat_tests, common_steps, s.frames, x, set-cases, get_or-set_same, lt, at, at_frame, tie-s.owner_resident, tie-s.slot_owned, tie-s.owner_stored, same, tie-s.whole) in
      keeps-one s t sound r has to sound.swap refl (rw (length-set s.frames f x) sound.hand) (GoesOn-refl s.swap) tie same

-- a page comes into a free frame that has its bytes
module _ (s : StoreView) (sound : IsStoreSound s) (r : PageRef) (f : ℕ) (has : HasPage s.segs r) (lt : f < length s.frames) (free : (frame_at s.frames f).owner ≡ None) (away : (rec_by s.segs r).frame ≡ None)
    (bytes : (frame_at s.frames f).bytes ≡ slot_bytes s.swap (rec_by s.segs r).slot) where
  pub keeps-settle : Keeps s (record s { segs = with_rec s.segs r (record { frame = Some f; slot = (rec_by s.segs r).slot }); frames = set s.frames f (record (frame_at s.frames f) { owner = Some r; referenced = true }) })
  keeps-settle =
      let tie-s : IsTied s r = sound.tied.pages r has in
      let p : PageRec = record { frame = Some f; slot = (rec_by s.segs r).slot } in
      let x : Frame = record (frame_at s.frames f) { owner = Some r; referenced = true } in
      let t : StoreView = record s { segs = with_rec s.segs r p; frames = set s.frames f x } in
      let at : rec_by t.segs r ≡ p = rec-with s.segs r p has in
      let set_at : frame_at (set s.frames f x) f ≡ x = get_or-set_same s.frames f x no_frame lt in
      let to : Touches (other r) s t = record {
        segs = segs-with s.segs r p;
        frames = frames-set (other r) s.frames f x (IsOwn-none (other r) _ free) (IsOwn-some r _ refl) (λ none. cc) sound.tied.free;
        slots = slots-same s.swap;
      } in
      let same : bytes_at t r ≡ bytes_at s r = rw (at, away) (ap (λ (y : Frame). y.bytes) set_at ∙ bytes) in
      let tie : IsTied t r = grind (arith, nat_tests, common_steps, s.frames, x, set_at, set-cases, tie-s.owner_resident, tie-s.slot_owned, tie-s.owner_stored, same, tie-s.whole) in
      keeps-one s t sound r has to sound.swap refl (rw (length-set s.frames f x) sound.hand) (GoesOn-refl s.swap) tie same

-- a free frame gets other bytes
pub keeps-load : (s : StoreView) → IsStoreSound s → (f : ℕ) (bytes : List ℕ) → (frame_at s.frames f).owner ≡ None → (u : SwapView) (ins : ℕ) → SameSlots s.swap u → IsSwap u → sizes u ≡ sizes s.swap → GoesOn s.swap u
    → Keeps s (record { segs = s.segs; frames = set s.frames f (record (frame_at s.frames f) { bytes = bytes }); hand = s.hand; swap = u; ins = ins; outs = s.outs })
keeps-load s sound f bytes free u ins kept is same goes_on =
    let x : Frame = record (frame_at s.frames f) { bytes = bytes } in
    let t : StoreView = record { segs = s.segs; frames = set s.frames f x; hand = s.hand; swap = u; ins = ins; outs = s.outs } in
    let to : Touches every s t = grind (arith, nat_tests, common_steps, segs-same, s.segs, frames-set, every, s.frames, x, sound.tied.free, slots-kept, s.swap) in
    keeps-every s t sound to is same (rw (length-set s.frames f x) sound.hand) goes_on

-- a dirty bit set to what it is
pub dirty-same : (fs : List Frame) (f : ℕ) (b : Bool) → (frame_at fs f).dirty ≡ b → set fs f (record (frame_at fs f) { dirty = b }) ≡ fs
dirty-same fs f b e = rw (← e) (set-get_or fs f no_frame)

-- a frame set twice
pub set-twice : (frames : List Frame) (f : ℕ) (x : Frame) (h : Frame → Frame) {a b : List Frame} → f < length frames → a ≡ set frames f x → b ≡ set a f (h (frame_at a f)) → b ≡ set frames f (h x)
set-twice frames f x h {a} {b} lt first second = grind (arith, common_steps, set-set)

-- a resident page's bytes change
module _ (s : StoreView) (sound : IsStoreSound s) (r : PageRef) (f : ℕ) (x : Frame) (at_frame : (rec_by s.segs r).frame ≡ Some f) (x_owner : x.owner ≡ (frame_at s.frames f).owner) (x_dirty : x.dirty ≡ true) (whole : length x.bytes ≡ 4096) where
  has-st : HasPage s.segs r
  has-st = has-frame s.segs r f at_frame

  tie-st : IsTied s r
  tie-st = sound.tied.pages r has-st

  lt-st : f < length s.frames
  lt-st = (tie-st.frame_owned f at_frame).0

  own-st : (frame_at s.frames f).owner ≡ Some r
  own-st = (tie-st.frame_owned f at_frame).1

  to-st : Touches (other r) s (record s { frames = set s.frames f x })
  to-st = grind (arith, nat_tests, common_steps, segs-same, s.segs, frames-set, other, s.frames, own-st, sound.tied.free, slots-same, s.swap)

  set-st : frame_at (set s.frames f x) f ≡ x
  set-st = get_or-set_same s.frames f x no_frame lt-st

  pub bytes-stored : page_bytes (set s.frames f x) s.swap (rec_by s.segs r) ≡ x.bytes
  bytes-stored = rw at_frame (ap (λ (y : Frame). y.bytes) set-st)

  bytes-there : (q : PageRef) → HasPage s.segs q → other r q ≡ true → page_bytes (set s.frames f x) s.swap (rec_by s.segs q) ≡ page_bytes s.frames s.swap (rec_by s.segs q)
  bytes-there q there off = bytes_touched (other r) s (record s { frames = set s.frames f x }) to-st q off (sound.tied.pages q there)

  pub bytes-others : (q : PageRef) → q ≢ r → page_bytes (set s.frames f x) s.swap (rec_by s.segs q) ≡ page_bytes s.frames s.swap (rec_by s.segs q)
  bytes-others q n = grind (arith, nat_tests, common_steps, q.page, s.segs, q.seg, bytes-there, other-true, rec-past)

  pub sound-stored : IsStoreSound (record s { frames = set s.frames f x })
  sound-stored =
      let t : StoreView = record s { frames = set s.frames f x } in
      let tie : IsTied t r = grind (arith, nat_tests, common_steps, s.frames, lt-st, set-st, own-st, set-cases, tie-st.owner_resident, tie-st.slot_owned, tie-st.owner_stored, bytes-stored) in
      sound-one s t sound r has-st to-st sound.swap refl (rw (length-set s.frames f x) sound.hand) (GoesOn-refl s.swap) tie
