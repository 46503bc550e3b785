-- Pages on loan to the host. A loan is a mark of a page's frame; neither the clock's rule nor any other step asks for it.
use Rattle.std.specs.Prelude.{ℕ, ◌≡◌, Bool, true, false, if◌then◌else◌, nat_lt, List, Option, Some, None, is_some, length, set, position}
use Rattle.shm_base.specs.declared.paging.PageRef.{PageRef}
use Rattle.shm_clock.specs.Clock.{ring_at}
use Rattle.shm_frames.specs.Frame.{frame_at, is_free}
use Rattle.shm_fault.specs.declared.loans.FrameInfo.{FrameInfo}
use Rattle.shm_fault.specs.Goes.{frame_by, referenced_at}
use Rattle.shm_fault.specs.Placing.{Places, places, victim_in}
use Rattle.shm_fault.specs.Segs.{SegRec, locked_by, rec_by}
use Rattle.shm_fault.specs.Sound.{IsStoreSound}
use Rattle.shm_fault.specs.Store.{StoreView, held}

-- the page of a frame is on loan, or not any more
abbrev pub with_loan : ℕ → Bool → Places → Places
with_loan f lent s = record s { frames = set s.frames f (record (frame_at s.frames f) { lent = lent }) }

abbrev pub loaned : Option ℕ → Bool → Places → Places
loaned None lent s = s
loaned (Some f) lent s = with_loan f lent s

-- a resident page is on loan now, or is not any more; nothing else changed
pub record SetsLent (r : PageRef) (lent : Bool) (s t : StoreView) : Type 0 where
  pub held : held t ≡ held s
  pub bits : (f : ℕ) → referenced_at t f ≡ referenced_at s f
  pub placed : places t ≡ loaned (frame_by s r) lent (places s)
  pub rest : t ≡ record s { frames = t.frames }
  pub count : length t.frames ≡ length s.frames
  pub sound : IsStoreSound t

-- what a frame shows of itself
abbrev pub is_owner_locked : List SegRec → Option PageRef → Bool
is_owner_locked gs None = false
is_owner_locked gs (Some r) = locked_by gs r.seg

abbrev pub info_of : StoreView → ℕ → FrameInfo
info_of s f =
    let x = frame_at s.frames f in
    record {
      owner = x.owner;
      is_referenced = x.referenced;
      is_dirty = x.dirty;
      is_lent = x.lent;
      is_locked = is_owner_locked s.segs x.owner;
    }

-- the frame that the clock's hand meets after `place` others; none if there are not that many
abbrev pub frame_met : StoreView → ℕ → Option FrameInfo
frame_met s place =
    let count = length s.frames in
    if nat_lt place count then Some (info_of s (ring_at s.hand count place)) else None

-- the frame of the page that would leave if one came in while the pinned frame stays; none if a frame is free
unfoldable pub leaver_in : Option ℕ → Places → Option ℕ
leaver_in pinned s = if is_some (position is_free s.frames) then None else Some (victim_in pinned s)

-- the frame that a visit to a page would touch, or empty: the page's own, or else the leaver's
abbrev pub frame_or_leaver : Option ℕ → Option ℕ → Places → Option ℕ
frame_or_leaver (Some f) pinned s = Some f
frame_or_leaver None pinned s = leaver_in pinned s

abbrev pub lent_at : Places → Option ℕ → Bool
lent_at s None = false
lent_at s (Some f) = (frame_at s.frames f).lent

-- a visit to the page would touch a page on loan, or send one out of its frame
unfoldable pub is_barred : PageRef → Option ℕ → Places → Bool
is_barred r pinned s = lent_at s (frame_or_leaver (rec_by s.segs r).frame pinned s)

-- each page on loan is still in its frame, and on loan
abbrev pub LoansStay : Places → Places → Type 0
LoansStay s t =
    (f : ℕ) (r : PageRef) → (frame_at s.frames f).owner ≡ Some r → (frame_at s.frames f).lent ≡ true
    → ((frame_at t.frames f).owner ≡ Some r) × ((frame_at t.frames f).lent ≡ true)
