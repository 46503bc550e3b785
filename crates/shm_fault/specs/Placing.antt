-- Where pages are and which bits are set, without the bytes, and how each step of paging changes that.
use Rattle.std.specs.Prelude.{ℕ, zero, suc, ◌≡◌, ◌<◌, ◌+◌, ◌⊎◌, Bool, true, false, not, ◌||◌, if◌then◌else◌, List, [], ◌∷◌, map, set, get_or, length, Option, Some, None, is_some, is_none, nat_eq, unwrap_or, position}
use Rattle.shm_base.specs.declared.paging.PageRef.{PageRef}
use Rattle.shm_base.specs.declared.paging.Slot.{Slot}
use Rattle.shm_base.specs.declared.paging.Span.{Span}
pub use Rattle.shm_slots.specs.Moving.{slot_owners, own_slot}
use Rattle.shm_frames.specs.Frame.{Frame, no_frame, frame_at, is_free}
use Rattle.shm_clock.specs.Clock.{candidates, victim_of, passed_by, unset_all, next}
use Rattle.shm_fault.specs.Segs.{SegRec, no_page, rec_by, with_rec, but}
use Rattle.shm_fault.specs.Store.{StoreView, ref_of}
use Rattle.shm_fault.specs.Goes.{unlocked}
use Rattle.shm_fault.specs.Counting.{Transfers, no_transfers, one_if}

-- each page's frame and slot, each frame's page and bits, the clock's hand, and each slot's page by area
pub record Places : Type 0 where
  pub segs : List SegRec
  pub frames : List Frame
  pub hand : ℕ
  pub slots : List (List (Option PageRef))

-- a frame without its bytes
abbrev pub bare : Frame → Frame
bare x = record x { bytes = [] }

-- the places of a store
unfoldable pub places : StoreView → Places
places s = record { segs = s.segs; frames = map bare s.frames; hand = s.hand; slots = slot_owners s.swap }

abbrev pub is_left_out : Option ℕ → ℕ → Bool
is_left_out None area = false
is_left_out (Some other) area = nat_eq other area

-- the least free slot of the first area that has one; areas are numbered from `area` on, and one may be left out
abbrev pub free_from : ℕ → Option ℕ → List (List (Option PageRef)) → Option Slot
free_from area left_out [] = None
free_from area left_out (owners ∷ rest) =
    if is_left_out left_out area || is_none (position is_none owners)
    then free_from (suc area) left_out rest
    else Some (record { area = area; slot = unwrap_or (position is_none owners) 0 })

unfoldable pub free_slot : Option ℕ → List (List (Option PageRef)) → Option Slot
free_slot left_out slots = free_from 0 left_out slots

-- the owner of one slot
abbrev pub owner_in : List (List (Option PageRef)) → Slot → Option PageRef
owner_in slots k = get_or (get_or slots k.area []) k.slot None

-- the page gets this slot, if it is given one
abbrev pub takes : PageRef → Option Slot → Places → Places
takes r None s = s
takes r (Some k) s =
    record s {
      segs = with_rec s.segs r (record { frame = (rec_by s.segs r).frame; slot = Some k });
      slots = own_slot s.slots k (Some r);
    }

abbrev pub keeps_or_takes : PageRef → Option Slot → Places → Places
keeps_or_takes r (Some k) s = s
keeps_or_takes r None s = takes r (free_slot None s.slots) s

abbrev pub slotted_for : Option PageRef → Places → Places
slotted_for None s = s
slotted_for (Some r) s = keeps_or_takes r (rec_by s.segs r).slot s

abbrev pub slotted : ℕ → Places → Places
slotted f s = slotted_for (frame_at s.frames f).owner s

abbrev pub with_bit : ℕ → Bool → Places → Places
with_bit f dirty s = record s { frames = set s.frames f (record (frame_at s.frames f) { dirty = dirty }) }

-- a dirty frame's page was written to its slot, or to the first free one if it had none; or that failed: the page keeps the slot,
-- and its frame stays dirty
unfoldable pub after_page_out : ℕ → Bool → Places → Places
after_page_out f ok s = with_bit f (not ok) (slotted f s)

-- the frame of the clock's victim
abbrev pub victim_in : Option ℕ → Places → ℕ
victim_in pinned s = victim_of s.frames (candidates (unlocked s.segs) pinned s.frames s.hand)

-- the clock turned: the bits that it passed are clear, and the hand is at the number after the victim
unfoldable pub after_turn : Option ℕ → Places → Places
after_turn pinned s = record s {
  frames = unset_all s.frames (passed_by s.frames (candidates (unlocked s.segs) pinned s.frames s.hand));
  hand = next (length s.frames) (victim_in pinned s);
}

-- a page left its frame, and keeps its slot if it has one
abbrev pub vacated_for : ℕ → Option PageRef → Places → Places
vacated_for f None s = s
vacated_for f (Some r) s = record s {
  segs = with_rec s.segs r (record { frame = None; slot = (rec_by s.segs r).slot });
  frames = set s.frames f no_frame;
}

unfoldable pub vacated : ℕ → Places → Places
vacated f s = vacated_for f (frame_at s.frames f).owner s

-- a dirty frame's page was written; a clean one's was not
unfoldable pub after_clean : ℕ → Places → Places
after_clean f s = if (frame_at s.frames f).dirty then after_page_out f true s else s

-- the victim's page was evicted
unfoldable pub after_eviction : Option ℕ → Places → Places
after_eviction pinned s = let f = victim_in pinned s in vacated f (after_clean f (after_turn pinned s))

-- a frame is free: the first free one, else that of the victim
unfoldable pub after_room : Option ℕ → Places → Places
after_room pinned s = if is_some (position is_free s.frames) then s else after_eviction pinned s

unfoldable pub frame_for : Option ℕ → Places → ℕ
frame_for pinned s = unwrap_or (position is_free s.frames) (victim_in pinned s)

-- a page came into a free frame, which is clean, with its referenced bit set; the page keeps its slot if it has one
unfoldable pub settled : PageRef → ℕ → Places → Places
settled r f s = record s {
  segs = with_rec s.segs r (record { frame = Some f; slot = (rec_by s.segs r).slot });
  frames = set s.frames f (record no_frame { owner = Some r; referenced = true });
}

-- a resident page's referenced bit was set
unfoldable pub referenced : ℕ → Places → Places
referenced f s = record s { frames = set s.frames f (record (frame_at s.frames f) { referenced = true }) }

-- a page was visited in its frame, or came into one
abbrev pub visited_in : PageRef → Option ℕ → Option ℕ → Places → Places
visited_in r (Some f) pinned s = referenced f s
visited_in r None pinned s = settled r (frame_for pinned s) (after_room pinned s)

unfoldable pub after_visit : PageRef → Option ℕ → Places → Places
after_visit r pinned s = visited_in r (rec_by s.segs r).frame pinned s

-- the pages of at most two spans came in; the first is pinned while the second comes in
unfoldable pub after_access : List Span → Places → Places
after_access [] s = s
after_access (p ∷ []) s = after_visit (ref_of p) None s
after_access (p ∷ q ∷ ps) s =
    let first = after_visit (ref_of p) None s in
    after_visit (ref_of q) (rec_by first.segs (ref_of p)).frame first

-- for room: if no frame is free, the victim's page is written if it is dirty
unfoldable pub room_counted : Option ℕ → Places → Transfers → Transfers
room_counted pinned s c =
    if is_some (position is_free s.frames)
    then c
    else record c { writes = c.writes + one_if (frame_at s.frames (victim_in pinned s)).dirty }

-- for a page that is not resident: room, and it is read if it is in a slot
abbrev pub page_counted : PageRef → Option ℕ → Option ℕ → Places → Transfers → Transfers
page_counted r (Some f) pinned s c = c
page_counted r None pinned s c =
    let room = room_counted pinned s c in
    record room { reads = room.reads + one_if (is_some (rec_by s.segs r).slot) }

unfoldable pub visit_counted : PageRef → Option ℕ → Places → Transfers → Transfers
visit_counted r pinned s c = page_counted r (rec_by s.segs r).frame pinned s c

-- how many pages an access reads and writes, by the visits of `after_access`
unfoldable pub access_counted : List Span → Places → Transfers
access_counted [] s = no_transfers
access_counted (p ∷ []) s = visit_counted (ref_of p) None s no_transfers
access_counted (p ∷ q ∷ ps) s =
    let first = after_visit (ref_of p) None s in
    visit_counted (ref_of q) (rec_by first.segs (ref_of p)).frame first (visit_counted (ref_of p) None s no_transfers)

-- the frames of the pages of spans are dirty
abbrev pub dirtied : Option ℕ → Places → Places
dirtied None s = s
dirtied (Some f) s = with_bit f true s

unfoldable pub with_dirty : List Span → Places → Places
with_dirty [] s = s
with_dirty (p ∷ ps) s = with_dirty ps (dirtied (rec_by s.segs (ref_of p)).frame s)

-- the write of the victim's dirty page failed
pub record StopsAtWrite (pinned : Option ℕ) (s t : Places) : Type 0 where
  pub full : is_some (position is_free s.frames) ≡ false
  pub dirty : (frame_at s.frames (victim_in pinned s)).dirty ≡ true
  pub places : t ≡ after_page_out (victim_in pinned s) false (after_turn pinned s)

-- the read of a page from its slot failed, after a frame was free
pub record StopsAtRead (r : PageRef) (pinned : Option ℕ) (s t : Places) : Type 0 where
  pub slot : is_some (rec_by s.segs r).slot ≡ true
  pub places : t ≡ after_room pinned s

-- a page that was not resident did not come in; neither the write nor the read that failed was counted
pub record StopsAt (r : PageRef) (pinned : Option ℕ) (s t : Places) (before after : Transfers) : Type 0 where
  pub away : (rec_by s.segs r).frame ≡ None
  pub how : (StopsAtWrite pinned s t × (after ≡ before))
      ⊎ (StopsAtRead r pinned s t × (after ≡ room_counted pinned s before))

-- A pager failed for the first page; or for the second, after the first had come in. This many pages were read and written before.
unfoldable pub Stops : List Span → Places → Places → Transfers → Type 0
Stops [] s t c = ⊥
Stops (p ∷ []) s t c = StopsAt (ref_of p) None s t no_transfers c
Stops (p ∷ q ∷ ps) s t c =
    let first = after_visit (ref_of p) None s in
    let came = visit_counted (ref_of p) None s no_transfers in
    StopsAt (ref_of p) None s t no_transfers c
    ⊎ StopsAt (ref_of q) (rec_by first.segs (ref_of p)).frame first t came c

-- frames were written in order; those whose write failed stay dirty
unfoldable pub after_flush : (ℕ → Bool) → List ℕ → Places → Places
after_flush failed [] s = s
after_flush failed (f ∷ fs) s = after_flush failed fs (after_page_out f (not (failed f)) s)

-- the move of the page in a slot: if it is in a frame, it is dirty now; else it has a free slot of another area
abbrev pub moves_page : Slot → PageRef → Option ℕ → Option Slot → Places → Places
moves_page k r (Some f) to s = record s {
  segs = with_rec s.segs r (record { frame = Some f; slot = None });
  frames = set s.frames f (record (frame_at s.frames f) { dirty = true });
  slots = own_slot s.slots k None;
}
moves_page k r None None s = s
moves_page k r None (Some to) s = record s {
  segs = with_rec s.segs r (record { frame = None; slot = Some to });
  slots = own_slot (own_slot s.slots to (Some r)) k None;
}

abbrev pub moves_owner : Slot → Option PageRef → Places → Places
moves_owner k None s = s
moves_owner k (Some r) s = moves_page k r (rec_by s.segs r).frame (free_slot (Some k.area) s.slots) s

unfoldable pub after_move : Slot → Places → Places
after_move k s = moves_owner k (owner_in s.slots k) s

-- the pages in the first slots of an area have moved, in order of their slots
unfoldable pub after_moves : ℕ → ℕ → Places → Places
after_moves area zero s = s
after_moves area (suc n) s = after_move (record { area = area; slot = n }) (after_moves area n s)

-- the area has no slots any more
unfoldable pub without_area : ℕ → Places → Places
without_area area s = record s { slots = set s.slots area [] }

-- a pager failed for the page in a slot, which is not resident; the page stays there
pub record StopsAtMove (k : Slot) (s t : Places) : Type 0 where
  pub page : PageRef
  pub owner : owner_in s.slots k ≡ Some page
  pub away : (rec_by s.segs page).frame ≡ None
  pub places : t ≡ s

-- the same for one slot of an area; the pages in the slots below it have moved, and no other
pub record StopsMoving (area : ℕ) (s t : Places) : Type 0 where
  pub slot : ℕ
  pub there : slot < length (get_or s.slots area [])
  pub stopped : StopsAtMove (record { area = area; slot = slot }) (after_moves area slot s) t

-- a frame and a slot are free, if they are given
abbrev pub frame_freed : Option ℕ → List Frame → List Frame
frame_freed None frames = frames
frame_freed (Some f) frames = set frames f no_frame

abbrev pub slot_freed : Option Slot → List (List (Option PageRef)) → List (List (Option PageRef))
slot_freed None slots = slots
slot_freed (Some k) slots = own_slot slots k None

-- a page has neither frame nor slot, and those that it had are free
unfoldable pub after_forget : PageRef → Places → Places
after_forget r s = record s {
  segs = with_rec s.segs r no_page;
  frames = frame_freed (rec_by s.segs r).frame s.frames;
  slots = slot_freed (rec_by s.segs r).slot s.slots;
}

-- the same for the first pages of a segment
unfoldable pub after_forgets : ℕ → ℕ → Places → Places
after_forgets seg zero s = s
after_forgets seg (suc n) s = after_forget (record { seg = seg; page = n }) (after_forgets seg n s)

-- the segment is gone
unfoldable pub without_segment : ℕ → Places → Places
without_segment seg s = record s { segs = but seg s.segs }
