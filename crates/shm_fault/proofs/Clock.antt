-- What the clock needs, what it leaves of the frames, and the page that would leave next.
use Rattle.shm_fault.proofs.Names.{◌≡◌, ℕ, suc, ◌<◌, ◌≤◌, Bool, true, false, List, [], ◌∷◌, length, Option, Some, None, is_some, refl, ap, arith, count_by, get_or_past, sum_by-cons, PageRef, Frame, frame_at, is_owned, OwnedBelow, IsClockVictim, next, page_may_go, StoreView, IsStoreSound, unlocked, Alike, nat_tests, common_steps, sym, no_frame, resident_of, length-set, position, set, is_free, candidates, victim_of, rec_by, position-none, before-position}
use Rattle.shm_fault.proofs.Tally.{resident-frames, unlocked_resident}
use Rattle.shm_frames.proofs.Counts.{all-counted}
use Rattle.shm_fault.specs.Placing.{places}
use Rattle.shm_fault.specs.Loans.{frame_or_leaver, is_barred, leaver_in, with_loan}
use Rattle.shm_fault.proofs.Sound.{Keeps, keeps-alike}
use Rattle.shm_fault.proofs.Visits.{alike-set}
use Rattle.shm_fault.proofs.Placed.{bare-at, bare-set, position-bare}
use Rattle.shm_fault.proofs.Places.{victim-place}

pub clock-alike : (may : ℕ → Bool) (hand : ℕ) (before : List Frame) (victim : ℕ) (after : List Frame) → IsClockVictim may hand before victim after → (f : ℕ) → Alike (frame_at before f) (frame_at after f)
clock-alike may hand before victim after is f = grind (arith, nat_tests, common_steps, is.bits, get_or_past, is.size)

pub next-lt : (before after : List Frame) (victim : ℕ) {hand : ℕ} → length after ≡ length before → victim < length before → hand ≡ next (length before) victim → hand < length after
next-lt before after victim {hand} size there is = grind (arith, nat_tests)

pub all-owned : (frames : List Frame) → OwnedBelow frames (length frames) → count_by is_owned frames ≡ length frames
all-owned [] full = refl
all-owned (x ∷ xs) full = grind (arith, nat_tests, common_steps, full 0, all-owned xs (λ i l. full (suc i) (omega (arith, l))), sum_by-cons)

-- where no frame is free, two at least have pages of segments that are not locked
pub two_unlocked : (s : StoreView) → IsStoreSound s → OwnedBelow s.frames (length s.frames) → 2 ≤ count_by (page_may_go (unlocked s.segs)) s.frames
two_unlocked s sound full = grind (arith, all-owned, resident-frames, unlocked_resident)

-- THE PAGE THAT WOULD LEAVE ITS FRAME

owned-free : (x : Frame) → is_owned x ≡ true → is_free x ≡ false
owned-free x e = grind (arith, nat_tests, common_steps)

-- a frame is lent, or not any more
pub keeps-loan : (s : StoreView) → IsStoreSound s → (f : ℕ) (b : Bool) → Keeps s (record s { frames = set s.frames f (record (frame_at s.frames f) { lent = b }) })
keeps-loan s sound f b =
    let x : Frame = record (frame_at s.frames f) { lent = b } in
    let size = length-set s.frames f x in
    let alike = alike-set s.frames f x (record { owner = refl; bytes = refl; dirty = refl }) in
    keeps-alike s sound (set s.frames f x) s.hand size alike (rw size sound.hand)

pub loan-set : (s t : StoreView) (f : ℕ) (b : Bool) → t ≡ record s { frames = t.frames } → t.frames ≡ set s.frames f (record (frame_at s.frames f) { lent = b }) → places t ≡ with_loan f b (places s)
unfolding places
loan-set s t f b rest frames =
    let x : Frame = record (frame_at s.frames f) { lent = b } in
    rw (rest, frames, bare-at s.frames f) (rw (bare-set s.frames f x) refl)

-- as many are owned as there are
pub full-owned : (frames : List Frame) → resident_of frames ≡ length frames → OwnedBelow frames (length frames)
full-owned frames full i l = owned-free (frame_at frames i) (all-counted is_owned no_frame frames full i l)

pub full-position : (frames : List Frame) → resident_of frames ≡ length frames → position is_free frames ≡ None
full-position frames full = position-none is_free frames no_frame (full-owned frames full)

-- or fewer
pub room-position : (frames : List Frame) → resident_of frames < length frames → is_some (position is_free frames) ≡ true
room-position frames less = grind (arith, nat_tests, common_steps, before-position is_free frames no_frame None, all-owned frames)

-- the page that would be evicted, if a frame is free and if none is
pub leaver-none : (pinned : Option ℕ) (s : StoreView) → resident_of s.frames < length s.frames → None ≡ leaver_in pinned (places s)
unfolding places leaver_in
leaver-none pinned s less = rw (position-bare s.frames, room-position s.frames less) refl

pub leaver-some : (pinned : Option ℕ) (s : StoreView) → resident_of s.frames ≡ length s.frames → Some (victim_of s.frames (candidates (unlocked s.segs) pinned s.frames s.hand)) ≡ leaver_in pinned (places s)
unfolding places leaver_in
leaver-some pinned s full = rw (position-bare s.frames, full-position s.frames full, victim-place s pinned) refl

-- whether a loan is in the way, by the frame that a visit would touch or empty
pub barred-some : (r : PageRef) (pinned : Option ℕ) (s : StoreView) (f : ℕ) → Some f ≡ frame_or_leaver (rec_by s.segs r).frame pinned (places s) → (frame_at s.frames f).lent ≡ is_barred r pinned (places s)
unfolding places is_barred
barred-some r pinned s f e = rw (← e) (ap (λ (x : Frame). x.lent) (sym (bare-at s.frames f)))

pub barred-none : (r : PageRef) (pinned : Option ℕ) (s : StoreView) → None ≡ frame_or_leaver (rec_by s.segs r).frame pinned (places s) → false ≡ is_barred r pinned (places s)
unfolding places is_barred
barred-none r pinned s e = rw (← e) refl
