-- What each step of paging, of a flush, of the loss of an area and of a drop makes of the places.
use Rattle.shm_fault.proofs.Names.{area_owners, next, arith, ◌≡◌, ◌+◌, ℕ, Bool, true, false, List, [], ◌∷◌, map, set, length, Option, Some, None, is_some, refl, sym, ap, ◌∙◌, inl, inr, PageRef, Slot, Span, with_slot_owner, Frame, no_frame, frame_at, rec_by, with_rec, StoreView, unlocked, ref_of, frame_by, Touched, IsUntouched, Transfers, counted, no_transfers, one_if, suc, ◌<◌, not, ◌++◌, get_or, All, All-head, All-tail, SwapView, area_at, without_slot, owner_of, off, with_area, no_page, but, Given, emptied, page_in, length-map, map-set, position, is_free, candidates, victim_of, passed_by, unset_all, Places, bare, free_slot, slotted, with_bit, after_page_out, victim_in, StopsAtWrite, StopsAt, own_slot, owner_in, moves_page, StopsAtMove, StopsMoving, frame_freed, slot_freed, owners-set, owners-at, owners-without}
use Rattle.std.proofs.Math.Seq.{map-set_same}
use Rattle.shm_slots.specs.Moving.{slot_owners}
use Rattle.shm_fault.specs.Placing.{places, after_turn, vacated, after_clean, after_eviction, after_room, frame_for, settled, referenced, after_visit, after_access, with_dirty, room_counted, visit_counted, access_counted, Stops, after_flush, after_move, after_moves, without_area, after_forget, after_forgets, without_segment}
use Rattle.shm_fault.proofs.Placed.{bare-at, bare-set, candidates-bare, victim-bare, passed-bare, unset-bare, position-bare}

-- a page that has a slot keeps it
pub slotted-own : (s : StoreView) (f : ℕ) (r : PageRef) (k : Slot) → (frame_at s.frames f).owner ≡ Some r → (rec_by s.segs r).slot ≡ Some k → places s ≡ slotted f (places s)
unfolding places
slotted-own s f r k owner slot = rw (bare-at s.frames f, owner, slot) refl

-- any other takes a free one
pub slotted-took : (s : StoreView) (f : ℕ) (r : PageRef) (k : Slot) → (frame_at s.frames f).owner ≡ Some r → (rec_by s.segs r).slot ≡ None → free_slot None (slot_owners s.swap) ≡ Some k
    → places (record s { segs = with_rec s.segs r (record { frame = (rec_by s.segs r).frame; slot = Some k }); swap = with_slot_owner s.swap k (Some r) }) ≡ slotted f (places s)
unfolding places
slotted-took s f r k owner slot free = rw (bare-at s.frames f, owner, slot, free, owners-set s.swap k (Some r)) refl

-- a frame's dirty bit
pub bit-set : (s t : StoreView) (f : ℕ) (b : Bool) → t.segs ≡ s.segs → t.hand ≡ s.hand → slot_owners t.swap ≡ slot_owners s.swap
    → map bare t.frames ≡ map bare (set s.frames f (record (frame_at s.frames f) { dirty = b })) → places t ≡ with_bit f b (places s)
unfolding places
bit-set s t f b segs hand slots frames =
    let x : Frame = record (frame_at s.frames f) { dirty = b } in
    rw (segs, hand, slots, frames, bare-at s.frames f) (rw (bare-set s.frames f x) refl)

-- and its referenced bit
pub referenced-set : (s t : StoreView) (f : ℕ) → t ≡ record s { frames = t.frames } → t.frames ≡ set s.frames f (record (frame_at s.frames f) { referenced = true }) → places t ≡ referenced f (places s)
unfolding places referenced
referenced-set s t f rest frames =
    let x : Frame = record (frame_at s.frames f) { referenced = true } in
    rw (rest, frames, bare-at s.frames f) (rw (bare-set s.frames f x) refl)

-- a page leaves its frame
pub vacated-is : (s t : StoreView) (f : ℕ) (r : PageRef) (bytes : List ℕ) → (frame_at s.frames f).owner ≡ Some r → t.hand ≡ s.hand → t.swap ≡ s.swap
    → t.segs ≡ with_rec s.segs r (record (rec_by s.segs r) { frame = None }) → t.frames ≡ set s.frames f (record no_frame { bytes = bytes }) → places t ≡ vacated f (places s)
unfolding places vacated
vacated-is s t f r bytes owner hand swap segs frames = rw (hand, swap, segs, frames, bare-at s.frames f, owner) (rw (bare-set s.frames f (record no_frame { bytes = bytes })) refl)

-- the clock turns
pub victim-place : (s : StoreView) (pinned : Option ℕ) → victim_of s.frames (candidates (unlocked s.segs) pinned s.frames s.hand) ≡ victim_in pinned (places s)
unfolding places
victim-place s pinned = rw (candidates-bare (unlocked s.segs) pinned s.frames s.hand) (sym (victim-bare s.frames (candidates (unlocked s.segs) pinned s.frames s.hand)))

pub turn-is : (s t : StoreView) (pinned : Option ℕ) → t.segs ≡ s.segs → t.swap ≡ s.swap → t.frames ≡ unset_all s.frames (passed_by s.frames (candidates (unlocked s.segs) pinned s.frames s.hand)) → t.hand ≡ next (length s.frames) (victim_of s.frames (candidates (unlocked s.segs) pinned s.frames s.hand))
    → places t ≡ after_turn pinned (places s)
unfolding places after_turn
turn-is s t pinned segs swap frames hand =
    let list = candidates (unlocked s.segs) pinned s.frames s.hand in
    rw (segs, swap, frames, hand, candidates-bare (unlocked s.segs) pinned s.frames s.hand, victim-bare s.frames list, passed-bare s.frames list, unset-bare s.frames (passed_by s.frames list), length-map s.frames bare) refl

-- a clean frame is left, a dirty one is written
pub clean-is : (s : StoreView) (f : ℕ) → (frame_at s.frames f).dirty ≡ false → places s ≡ after_clean f (places s)
unfolding places after_clean
clean-is s f clean = rw (bare-at s.frames f, clean) refl

pub dirty-is : (s t : StoreView) (f : ℕ) → (frame_at s.frames f).dirty ≡ true → places t ≡ after_page_out f true (places s) → places t ≡ after_clean f (places s)
unfolding places after_clean
dirty-is s t f dirty out = rw (bare-at s.frames f, dirty) out

-- the victim's page is evicted
pub eviction-is : (s t₁ t₂ t₃ : StoreView) (pinned : Option ℕ) (f : ℕ) → f ≡ victim_in pinned (places s) → places t₁ ≡ after_turn pinned (places s) → places t₂ ≡ after_clean f (places t₁) → places t₃ ≡ vacated f (places t₂)
    → places t₃ ≡ after_eviction pinned (places s)
unfolding after_eviction
eviction-is s t₁ t₂ t₃ pinned f victim turn clean gone = rw (← victim, ← turn, ← clean) gone

full-place : (s : StoreView) → position is_free s.frames ≡ None → is_some (position is_free (places s).frames) ≡ false
unfolding places
full-place s e = rw (position-bare s.frames, e) refl

dirty-place : (s : StoreView) (f : ℕ) → (frame_at (places s).frames f).dirty ≡ (frame_at s.frames f).dirty
unfolding places
dirty-place s f = ap (λ (x : Frame). x.dirty) (bare-at s.frames f)

-- whether the victim's frame is dirty
pub victim-dirty : (s : StoreView) (pinned : Option ℕ) (f : ℕ) → f ≡ victim_in pinned (places s) → (frame_at s.frames f).dirty ≡ (frame_at (places s).frames (victim_in pinned (places s))).dirty
victim-dirty s pinned f victim = sym (dirty-place s f) ∙ ap (λ (n : ℕ). (frame_at (places s).frames n).dirty) victim

-- or its write fails
pub stops-write : (s t₁ t₂ : StoreView) (pinned : Option ℕ) (f : ℕ) → f ≡ victim_in pinned (places s) → places t₁ ≡ after_turn pinned (places s) → places t₂ ≡ after_page_out f false (places t₁)
    → position is_free s.frames ≡ None → (frame_at s.frames f).dirty ≡ true → StopsAtWrite pinned (places s) (places t₂)
stops-write s t₁ t₂ pinned f victim turn out full dirty = record {
  full = full-place s full;
  dirty = sym (victim-dirty s pinned f victim) ∙ dirty;
  places = rw (← victim, ← turn) out;
}

-- a frame is free, or the eviction of a page frees one
pub room-free : (s : StoreView) (pinned : Option ℕ) (f : ℕ) → position is_free s.frames ≡ Some f → (places s ≡ after_room pinned (places s)) × (f ≡ frame_for pinned (places s))
unfolding places after_room frame_for
room-free s pinned f free = rw (position-bare s.frames, free) (refl, refl)

room-evicted : (s : StoreView) (q : Places) (pinned : Option ℕ) → position is_free s.frames ≡ None → q ≡ after_eviction pinned (places s) → q ≡ after_room pinned (places s)
unfolding places after_room
room-evicted s q pinned free e = rw (position-bare s.frames, free) e

frame-evicted : (s : StoreView) (f : ℕ) (pinned : Option ℕ) → position is_free s.frames ≡ None → f ≡ victim_in pinned (places s) → f ≡ frame_for pinned (places s)
unfolding places frame_for
frame-evicted s f pinned free e = rw (position-bare s.frames, free) e

pub room-made : (s t : StoreView) (pinned : Option ℕ) (f : ℕ) → position is_free s.frames ≡ None → places t ≡ after_eviction pinned (places s) → f ≡ victim_in pinned (places s)
    → (places t ≡ after_room pinned (places s)) × (f ≡ frame_for pinned (places s))
room-made s t pinned f free out victim = (room-evicted s (places t) pinned free out, frame-evicted s f pinned free victim)

-- what was counted for that
pub free-counted : (s : StoreView) (pinned : Option ℕ) (f : ℕ) (c : Transfers) → position is_free s.frames ≡ Some f → c ≡ room_counted pinned (places s) c
unfolding places room_counted
free-counted s pinned f c free = rw (position-bare s.frames, free) refl

pub evicted-counted : (s : StoreView) (pinned : Option ℕ) (wrote : Bool) (c : Transfers) (writes : ℕ) → position is_free s.frames ≡ None → wrote ≡ (frame_at (places s).frames (victim_in pinned (places s))).dirty → writes ≡ c.writes + one_if wrote
    → record c { writes = writes } ≡ room_counted pinned (places s) c
unfolding room_counted
evicted-counted s pinned wrote c writes free dirty more = rw (full-place s free, more, dirty) refl

-- a page comes into a free frame
pub settled-is : (s t : StoreView) (r : PageRef) (f : ℕ) → (frame_at s.frames f).dirty ≡ false → (frame_at s.frames f).lent ≡ false → t.hand ≡ s.hand → t.swap ≡ s.swap
    → t.segs ≡ with_rec s.segs r (record { frame = Some f; slot = (rec_by s.segs r).slot }) → t.frames ≡ set s.frames f (record (frame_at s.frames f) { owner = Some r; referenced = true }) → places t ≡ settled r f (places s)
unfolding places settled
settled-is s t r f clean home hand swap segs frames =
    let x : Frame = record (frame_at s.frames f) { owner = Some r; referenced = true } in
    rw (hand, swap, segs, frames, bare-set s.frames f x, clean, home) refl

-- reading bytes into a frame changes no place
pub same-places : (s t : StoreView) (f : ℕ) (bytes : List ℕ) → t.segs ≡ s.segs → t.hand ≡ s.hand → slot_owners t.swap ≡ slot_owners s.swap → t.frames ≡ set s.frames f (record (frame_at s.frames f) { bytes = bytes }) → places t ≡ places s
unfolding places
same-places s t f bytes segs hand slots frames = rw (segs, hand, slots, frames, map-set_same bare s.frames f (record (frame_at s.frames f) { bytes = bytes }) no_frame refl) refl

-- where a page is, by the places
pub place-by : (s : StoreView) (r : PageRef) → rec_by (places s).segs r ≡ rec_by s.segs r
unfolding places
place-by s r = refl

-- a page is visited
pub visit-known : (s : StoreView) (q : Places) (r : PageRef) (pinned : Option ℕ) (f : ℕ) → frame_by s r ≡ Some f → q ≡ referenced f (places s) → q ≡ after_visit r pinned (places s)
unfolding places after_visit
visit-known s q r pinned f known is = rw known is

pub visit-fault : (s : StoreView) (q : Places) (r : PageRef) (pinned : Option ℕ) → frame_by s r ≡ None → q ≡ settled r (frame_for pinned (places s)) (after_room pinned (places s)) → q ≡ after_visit r pinned (places s)
unfolding places after_visit
visit-fault s q r pinned away is = rw away is

-- and counted
pub known-counted : (s : StoreView) (r : PageRef) (pinned : Option ℕ) (f : ℕ) (c : Transfers) → frame_by s r ≡ Some f → c ≡ visit_counted r pinned (places s) c
unfolding places visit_counted
known-counted s r pinned f c known = rw known refl

pub fault-counted : (s : StoreView) (r : PageRef) (pinned : Option ℕ) (u m v : Touched) → frame_by s r ≡ None → counted m ≡ room_counted pinned (places s) (counted u) → v.ins ≡ m.ins + one_if (is_some (rec_by s.segs r).slot) → v.outs ≡ m.outs
    → counted v ≡ visit_counted r pinned (places s) (counted u)
unfolding places visit_counted
fault-counted s r pinned u m v away room ins outs = rw (away, ← room, ins, outs) refl

-- a read that failed is not
pub unread-counted : (m v : Touched) → v.ins ≡ m.ins + 0 → v.outs ≡ m.outs → counted v ≡ counted m
unread-counted m v ins outs = let same : v.ins ≡ m.ins = omega (arith, ins) in rw (same, outs) refl

pub untouched-counted : (u : Touched) → IsUntouched u → counted u ≡ no_transfers
untouched-counted u none = rw (none.1, none.2) refl

module _ (s t : StoreView) (r : PageRef) (pinned : Option ℕ) (b c : Transfers) where
  pub stops-at-write : frame_by s r ≡ None → StopsAtWrite pinned (places s) (places t) → c ≡ b → StopsAt r pinned (places s) (places t) b c
  stops-at-write away how none = record { away = rw (place-by s r) away; how = inl (how, none) }

  pub stops-at-read : frame_by s r ≡ None → is_some (rec_by s.segs r).slot ≡ true → places t ≡ after_room pinned (places s) → c ≡ room_counted pinned (places s) b → StopsAt r pinned (places s) (places t) b c
  stops-at-read away slot is room = record { away = rw (place-by s r) away; how = inr (record { slot = rw (place-by s r) slot; places = is }, room) }

-- and the pages of spans, one after another
module _ (p : Span) (s t : StoreView) where
  pub access-one : places t ≡ after_visit (ref_of p) None (places s) → places t ≡ after_access (p ∷ []) (places s)
  unfolding after_access
  access-one is = is

  pub counted-one : (c : Transfers) → c ≡ visit_counted (ref_of p) None (places s) no_transfers → c ≡ access_counted (p ∷ []) (places s)
  unfolding access_counted
  counted-one c is = is

  pub stops-one : (u : Touched) (c : Transfers) → IsUntouched u → StopsAt (ref_of p) None (places s) (places t) (counted u) c → Stops (p ∷ []) (places s) (places t) c
  unfolding Stops
  stops-one u c none is = rw (untouched-counted u none) at is

module _ (p q : Span) (s t z : StoreView) (f : ℕ) (first : places t ≡ after_visit (ref_of p) None (places s)) (at : frame_by t (ref_of p) ≡ Some f) where
  pub access-two : places z ≡ after_visit (ref_of q) (Some f) (places t) → places z ≡ after_access (p ∷ q ∷ []) (places s)
  unfolding after_access
  access-two second = let known : (rec_by (places t).segs (ref_of p)).frame ≡ Some f = rw (place-by t (ref_of p)) at in rw (← first, known) second

  pub counted-two : (b c : Transfers) → b ≡ visit_counted (ref_of p) None (places s) no_transfers → c ≡ visit_counted (ref_of q) (Some f) (places t) b → c ≡ access_counted (p ∷ q ∷ []) (places s)
  unfolding access_counted
  counted-two b c one second = let known : (rec_by (places t).segs (ref_of p)).frame ≡ Some f = rw (place-by t (ref_of p)) at in rw (← first, known, ← one) second

  pub stops-second : (b c : Transfers) → b ≡ visit_counted (ref_of p) None (places s) no_transfers → StopsAt (ref_of q) (Some f) (places t) (places z) b c → Stops (p ∷ q ∷ []) (places s) (places z) c
  unfolding Stops
  stops-second b c one second = let known : (rec_by (places t).segs (ref_of p)).frame ≡ Some f = rw (place-by t (ref_of p)) at in inr (rw (← first, known, ← one) second)

pub stops-first : (p q : Span) (s t : StoreView) (u : Touched) (c : Transfers) → IsUntouched u → StopsAt (ref_of p) None (places s) (places t) (counted u) c → Stops (p ∷ q ∷ []) (places s) (places t) c
unfolding Stops
stops-first p q s t u c none is = inl (rw (untouched-counted u none) at is)

pub access-none : (s : StoreView) → places s ≡ after_access [] (places s)
unfolding after_access
access-none s = refl

pub counted-none : (s : StoreView) (u : Touched) → IsUntouched u → counted u ≡ access_counted [] (places s)
unfolding access_counted
counted-none s u none = untouched-counted u none

-- frames become dirty
pub dirty-none : (s : StoreView) → places s ≡ with_dirty [] (places s)
unfolding with_dirty
dirty-none s = refl

pub dirty-one : (p : Span) (s t : StoreView) (f : ℕ) → frame_by s (ref_of p) ≡ Some f → places t ≡ with_bit f true (places s) → places t ≡ with_dirty (p ∷ []) (places s)
unfolding with_dirty
dirty-one p s t f at is = let known : (rec_by (places s).segs (ref_of p)).frame ≡ Some f = rw (place-by s (ref_of p)) at in rw known is

-- WHAT A FLUSH AND THE LOSS OF AN AREA MAKE OF THE PLACES

-- frames are written one after another
pub flush-none : (failed : ℕ → Bool) (s : Places) → after_flush failed [] s ≡ s
unfolding after_flush
flush-none failed s = refl

pub flush-push : (failed : ℕ → Bool) (fs : List ℕ) (f : ℕ) (s : Places) → after_flush failed (fs ++ f ∷ []) s ≡ after_page_out f (not (failed f)) (after_flush failed fs s)
unfolding after_flush
flush-push failed [] f s = refl
flush-push failed (g ∷ fs) f s = flush-push failed fs f (after_page_out g (not (failed g)) s)

pub flush-same : (p q : ℕ → Bool) (i : ℕ) (fs : List ℕ) → All (λ x. x < i) fs → ((x : ℕ) → x < i → p x ≡ q x) → (s : Places) → after_flush p fs s ≡ after_flush q fs s
unfolding after_flush
flush-same p q i [] all same s = refl
flush-same p q i (f ∷ fs) all same s = rw (same f (All-head (λ x. x < i) f fs all)) (flush-same p q i fs (All-tail (λ x. x < i) f fs all) same (after_page_out f (not (q f)) s))

-- a resident page gives its slot back
pub moved-back : (s : StoreView) (r : PageRef) (f : ℕ) (k : Slot) (u : SwapView) (page : List ℕ) → u ≡ without_slot s.swap k page
    → places (record s { segs = with_rec s.segs r (record { frame = Some f; slot = None }); frames = set s.frames f (record (frame_at s.frames f) { dirty = true }); swap = u }) ≡ moves_page k r (Some f) None (places s)
unfolding places
moved-back s r f k u page given = rw (given, bare-at s.frames f) (rw (bare-set s.frames f (record (frame_at s.frames f) { dirty = true }), owners-without s.swap k page) refl)

-- no slot's owner changed
pub places-swap : (s : StoreView) (u : SwapView) → slot_owners u ≡ slot_owners s.swap → places (record s { swap = u }) ≡ places s
unfolding places
places-swap s u same = rw same refl

-- any other page has another slot
pub moved-away : (s : StoreView) (r : PageRef) (k to : Slot) (u : SwapView) → free_slot (Some k.area) (slot_owners s.swap) ≡ Some to → slot_owners u ≡ own_slot (own_slot (slot_owners s.swap) to (Some r)) k None
    → places (record s { segs = with_rec s.segs r (record { frame = None; slot = Some to }); swap = u }) ≡ moves_page k r None (free_slot (Some k.area) (slot_owners s.swap)) (places s)
unfolding places
moved-away s r k to u found owners = rw (found, owners) refl

-- the same, by the slot
pub move-none : (s : StoreView) (k : Slot) → owner_of s.swap k.area k.slot ≡ None → places s ≡ after_move k (places s)
unfolding places after_move
move-none s k none = rw (owners-at s.swap k.area, none) refl

pub move-is : (s : StoreView) (q : Places) (k : Slot) (r : PageRef) (frame : Option ℕ) → owner_of s.swap k.area k.slot ≡ Some r → (rec_by s.segs r).frame ≡ frame
    → q ≡ moves_page k r frame (free_slot (Some k.area) (slot_owners s.swap)) (places s) → q ≡ after_move k (places s)
unfolding places after_move
move-is s q k r frame owner at_frame is = rw (owners-at s.swap k.area, owner, at_frame) is

owner-place : (s : StoreView) (k : Slot) (r : PageRef) → owner_of s.swap k.area k.slot ≡ Some r → owner_in (places s).slots k ≡ Some r
unfolding places
owner-place s k r e = rw (owners-at s.swap k.area) e

length-place : (s : StoreView) (area n : ℕ) → n < length (area_at s.swap area).owners → n < length (get_or (places s).slots area [])
unfolding places
length-place s area n e = rw (owners-at s.swap area) e

pub stops-at-move : (s t : StoreView) (k : Slot) (r : PageRef) → owner_of s.swap k.area k.slot ≡ Some r → (rec_by s.segs r).frame ≡ None → places t ≡ places s → StopsAtMove k (places s) (places t)
stops-at-move s t k r owner away same = record { page = r; owner = owner-place s k r owner; away = rw (place-by s r) away; places = same }

-- slot after slot
pub moves-none : (area : ℕ) (s : Places) → s ≡ after_moves area 0 s
unfolding after_moves
moves-none area s = refl

pub moves-then : (area n : ℕ) (s t u : Places) → t ≡ after_moves area n s → u ≡ after_move (record { area = area; slot = n }) t → u ≡ after_moves area (n + 1) s
unfolding after_moves
moves-then area n s t u first then = let e : n + 1 ≡ suc n = omega arith in rw (e, ← first) then

pub stops-moving : (area n : ℕ) (s t u : StoreView) → n < length (area_at s.swap area).owners → places t ≡ after_moves area n (places s) → StopsAtMove (record { area = area; slot = n }) (places t) (places u) → StopsMoving area (places s) (places u)
stops-moving area n s t u there first stopped = record { slot = n; there = length-place s area n there; stopped = rw first at stopped }

-- the area is turned off
area-off : (t u : StoreView) (area : ℕ) → u ≡ record t { swap = with_area t.swap area (off (area_at t.swap area)) } → places u ≡ without_area area (places t)
unfolding places without_area slot_owners
area-off t u area gone = rw gone (rw (map-set area_owners t.swap.areas area (off (area_at t.swap area))) refl)

pub area-gone : (s t u : StoreView) (area n : ℕ) → u ≡ record t { swap = with_area t.swap area (off (area_at t.swap area)) } → places t ≡ after_moves area n (places s) → places u ≡ without_area area (after_moves area n (places s))
area-gone s t u area n gone is = rw (← is) (area-off t u area gone)

-- PLACES AFTER A SEGMENT IS DROPPED

-- the frame and the slot that a page had
bare-emptied : (frames : List Frame) (o : Option ℕ) → map bare (emptied frames o) ≡ frame_freed o (map bare frames)
bare-emptied frames None = refl
bare-emptied frames (Some f) = bare-set frames f (record no_frame { bytes = (frame_at frames f).bytes })

owners-given : (s u : SwapView) (o : Option Slot) → Given s o u → slot_owners u ≡ slot_freed o (slot_owners s)
owners-given s u None given = ap slot_owners given
owners-given s u (Some k) given = ap slot_owners given ∙ owners-without s k (page_in u k.area k.slot)

-- a page is nowhere
pub forget-is : (s : StoreView) (r : PageRef) (u : SwapView) → Given s.swap (rec_by s.segs r).slot u
    → places (record s { segs = with_rec s.segs r no_page; frames = emptied s.frames (rec_by s.segs r).frame; swap = u }) ≡ after_forget r (places s)
unfolding places after_forget
forget-is s r u given = rw (bare-emptied s.frames (rec_by s.segs r).frame, owners-given s.swap u (rec_by s.segs r).slot given) refl

pub forget-nowhere : (s : StoreView) (r : PageRef) → with_rec s.segs r no_page ≡ s.segs → rec_by s.segs r ≡ no_page → places s ≡ after_forget r (places s)
unfolding places after_forget
forget-nowhere s r same is = rw (same, is) refl

-- page after page
pub forgets-none : (seg : ℕ) (s : Places) → s ≡ after_forgets seg 0 s
unfolding after_forgets
forgets-none seg s = refl

pub forgets-then : (seg n : ℕ) (s t u : Places) → t ≡ after_forgets seg n s → u ≡ after_forget (record { seg = seg; page = n }) t → u ≡ after_forgets seg (n + 1) s
unfolding after_forgets
forgets-then seg n s t u first then = let e : n + 1 ≡ suc n = omega arith in rw (e, ← first) then

-- the segment is removed
segment-off : (t : StoreView) (seg : ℕ) → places (record t { segs = but seg t.segs }) ≡ without_segment seg (places t)
unfolding places without_segment
segment-off t seg = refl

pub segment-gone : (seg n : ℕ) (s t : StoreView) → places t ≡ after_forgets seg n (places s) → places (record t { segs = but seg t.segs }) ≡ without_segment seg (after_forgets seg n (places s))
segment-gone seg n s t is = rw (← is) (segment-off t seg)
