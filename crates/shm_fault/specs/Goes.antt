-- What each step of an access, of a flush and of a swapoff keeps.
use Rattle.std.specs.Prelude.{ℕ, ◌≡◌, ◌≢◌, Bool, true, not, if◌then◌else◌, Option, Some, None, length, List, map, is_some}
use Rattle.shm_base.specs.declared.paging.PageRef.{PageRef}
use Rattle.shm_base.specs.declared.paging.Slot.{Slot}
use Rattle.shm_slots.specs.View.{sizes}
use Rattle.shm_slots.specs.Cause.{Counts, GoesOn, some_spent, had_cause}
use Rattle.shm_frames.specs.Frame.{Frame, frame_at}
use Rattle.shm_fault.specs.declared.touched.PageMove.{PageMove}
use Rattle.shm_fault.specs.Steps.{MovesLead}
use Rattle.shm_fault.specs.Segs.{SegRec, rec_by, locked_by}
use Rattle.shm_fault.specs.Store.{StoreView, held, is_page}

-- what paging never changes of a segment
pub record Outline : Type 0 where
  pub id : ℕ
  pub locked : Bool
  pub count : ℕ

abbrev pub outline : SegRec → Outline
outline g = record { id = g.id; locked = g.locked; count = length g.pages }

abbrev pub outlines : List SegRec → List Outline
outlines gs = map outline gs

-- no segment is added or dropped, or changes its lock, its size or a byte; the areas and their sizes stay
pub record Goes (s t : StoreView) : Type 0 where
  pub bytes : held t ≡ held s
  pub shape : outlines t.segs ≡ outlines s.segs
  pub size : length t.frames ≡ length s.frames
  pub goes_on : GoesOn s.swap t.swap
  pub same_sizes : sizes t.swap ≡ sizes s.swap
  -- if an area is spent now, one was spent before, or a failure was counted
  pub spent : some_spent t.swap ≡ true → had_cause s.swap t.swap ≡ true

-- the same owner, bytes and dirty bit
pub record Alike (x y : Frame) : Type 0 where
  pub owner : y.owner ≡ x.owner
  pub bytes : y.bytes ≡ x.bytes
  pub dirty : y.dirty ≡ x.dirty

-- pages of locked segments stay resident
abbrev pub KeepsLocked : StoreView → StoreView → Type 0
KeepsLocked s t = (r : PageRef) → locked_by s.segs r.seg ≡ true
    → is_some (rec_by s.segs r).frame ≡ true → is_some (rec_by t.segs r).frame ≡ true

-- the page's segment is not locked
abbrev pub unlocked : List SegRec → PageRef → Bool
unlocked gs r = not (locked_by gs r.seg)

-- pages that are not resident stay where they are
abbrev pub StaysAway : StoreView → StoreView → Type 0
StaysAway s t = (q : PageRef) → (rec_by s.segs q).frame ≡ None → rec_by t.segs q ≡ rec_by s.segs q

-- the same for all pages except one
abbrev pub OthersAway : PageRef → StoreView → StoreView → Type 0
OthersAway r s t = (q : PageRef) → q ≢ r → (rec_by s.segs q).frame ≡ None → rec_by t.segs q ≡ rec_by s.segs q

abbrev pub referenced_at : StoreView → ℕ → Bool
referenced_at s f = (frame_at s.frames f).referenced

-- the page in the pinned frame stays there, and its referenced bit stays set if it was
abbrev pub KeepsPinned : Option ℕ → StoreView → StoreView → Type 0
KeepsPinned pinned s t =
    (p : ℕ) (q : PageRef) → pinned ≡ Some p → (rec_by s.segs q).frame ≡ Some p
    → ((rec_by t.segs q).frame ≡ Some p) × (referenced_at s p ≡ true → referenced_at t p ≡ true)

-- what a step of a visit to a page keeps
pub record Visits (r : PageRef) (pinned : Option ℕ) (s t : StoreView) : Type 0 where
  pub goes : Goes s t
  pub kept : KeepsLocked s t
  pub away : OthersAway r s t
  pub pin : KeepsPinned pinned s t

-- if the moves led to the first residency, then with the additional ones they lead to the second
abbrev pub MovesOn : List PageMove → List PageMove → StoreView → StoreView → Type 0
MovesOn ms more s t = (b : StoreView) → MovesLead ms b s → MovesLead more b t

abbrev pub frame_by : StoreView → PageRef → Option ℕ
frame_by s r = (rec_by s.segs r).frame

-- a page is in this frame, whose referenced bit is set
abbrev pub IsSeenIn : StoreView → PageRef → ℕ → Type 0
IsSeenIn s r f = (frame_by s r ≡ Some f) × (referenced_at s f ≡ true)

-- one page came into a frame or left its own; the other pages did not move
abbrev pub OnlyMoves : PageRef → Option ℕ → StoreView → StoreView → Type 0
OnlyMoves r to s t = (q : PageRef) → frame_by t q ≡ (if is_page r q.seg q.page then to else frame_by s q)

-- the slot is that of the frame's page
abbrev pub IsSlotOf : Option PageRef → List SegRec → Slot → Type 0
IsSlotOf owner gs k = (r : PageRef) → owner ≡ Some r → (rec_by gs r).slot ≡ Some k

-- only these may change: segments (their pages' slots), frames (their dirty bits), the swap, and the count of pages written
abbrev pub OnlyWrites : StoreView → StoreView → Type 0
OnlyWrites s t = t ≡ record s { segs = t.segs; frames = t.frames; swap = t.swap; outs = t.outs }

-- failures: a step that succeeds counts none, and one that fails counts one, unless an area has counted its last
abbrev pub CountsFailure : Bool → StoreView → StoreView → Type 0
CountsFailure ok s t = Counts ok s.swap t.swap
