-- A page that is visited twice, or becomes dirty twice.
use Rattle.shm_segments.proofs.Names.{List, [], ◌∷◌, ◌≡◌, ℕ, zero, suc, Bool, true, false, set, Option, Some, None, is_some, refl, sym, ap, ◌∙◌, if◌then◌else◌, Frame, position, PageRef, frame_at, is_free, no_frame, HasPage, rec_by, has-same, outlines-with, rec-with}
use Rattle.shm_base.specs.declared.paging.Slot.{Slot}
use Rattle.shm_fault.specs.Goes.{outlines}
use Rattle.shm_fault.specs.Placing.{Places, after_clean, after_eviction, after_page_out, after_room, after_turn, after_visit, dirtied, frame_for, free_slot, keeps_or_takes, referenced, settled, slotted_for, takes, vacated, vacated_for, victim_in, visited_in}

-- a page's list of segments keeps its outline
room-outlines : (s : Places) → outlines (after_room None s).segs ≡ outlines s.segs
unfolding after_room after_eviction vacated after_clean after_page_out after_turn
room-outlines s = by-room (is_some (position is_free s.frames))
  where
    by-slot : (r : PageRef) (o : Option Slot) (u : Places) → outlines (takes r o u).segs ≡ outlines u.segs
    by-slot r None u = refl
    by-slot r (Some k) u = outlines-with u.segs r (record { frame = (rec_by u.segs r).frame; slot = Some k })

    by-kept : (r : PageRef) (o : Option Slot) (u : Places) → outlines (keeps_or_takes r o u).segs ≡ outlines u.segs
    by-kept r (Some k) u = refl
    by-kept r None u = by-slot r (free_slot None u.slots) u

    by-owner : (o : Option PageRef) (u : Places) → outlines (slotted_for o u).segs ≡ outlines u.segs
    by-owner None u = refl
    by-owner (Some r) u = by-kept r (rec_by u.segs r).slot u

    by-dirty : (b : Bool) (f : ℕ) (u : Places) → outlines (if b then after_page_out f true u else u).segs ≡ outlines u.segs
    by-dirty true f u = by-owner (frame_at u.frames f).owner u
    by-dirty false f u = refl

    by-vacated : (f : ℕ) (o : Option PageRef) (u : Places) → outlines (vacated_for f o u).segs ≡ outlines u.segs
    by-vacated f None u = refl
    by-vacated f (Some r) u = outlines-with u.segs r (record { frame = None; slot = (rec_by u.segs r).slot })

    by-room : (b : Bool) → outlines (if b then s else after_eviction None s).segs ≡ outlines s.segs
    by-room true = refl
    by-room false =
        let f = victim_in None s in
        let t = after_turn None s in
        let u = after_clean f t in
        by-vacated f (frame_at u.frames f).owner u ∙ by-dirty (frame_at t.frames f).dirty f t

-- a bit that is set is set again
set-again : (xs : List Frame) (f : ℕ) (x : Frame) → x.referenced ≡ true → set (set xs f x) f (record (frame_at (set xs f x) f) { referenced = true }) ≡ set xs f x
set-again [] f x is = refl
set-again (y ∷ ys) zero x is = ap (λ b. record x { referenced = b } ∷ ys) (sym is)
set-again (y ∷ ys) (suc f) x is = ap (λ zs. y ∷ zs) (set-again ys f x is)

pub again : (r : PageRef) (s : Places) → HasPage s.segs r → after_visit r (rec_by (after_visit r None s).segs r).frame (after_visit r None s) ≡ after_visit r None s
unfolding after_visit referenced settled
again r s has = by (rec_by s.segs r).frame refl
  where
    by : (o : Option ℕ) → (rec_by s.segs r).frame ≡ o → after_visit r (rec_by (visited_in r o None s).segs r).frame (visited_in r o None s) ≡ visited_in r o None s
    by (Some f) is = rw (is, set-again s.frames f (record (frame_at s.frames f) { referenced = true }) refl) refl
    by None is =
        let u = after_room None s in
        let f = frame_for None s in
        let here = rec-with u.segs r (record { frame = Some f; slot = (rec_by u.segs r).slot }) (has-same s.segs u.segs r (room-outlines s) has) in
        rw (here, set-again u.frames f (record no_frame { owner = Some r; referenced = true }) refl) refl

pub visited : (r : PageRef) (s : Places) → HasPage s.segs r → is_some (rec_by (after_visit r None s).segs r).frame ≡ true
unfolding after_visit referenced settled
visited r s has = by (rec_by s.segs r).frame refl
  where
    by : (o : Option ℕ) → (rec_by s.segs r).frame ≡ o → is_some (rec_by (visited_in r o None s).segs r).frame ≡ true
    by (Some f) is = rw is refl
    by None is =
        let u = after_room None s in
        let f = frame_for None s in
        rw (rec-with u.segs r (record { frame = Some f; slot = (rec_by u.segs r).slot }) (has-same s.segs u.segs r (room-outlines s) has)) refl

dirty-again : (xs : List Frame) (f : ℕ) (x : Frame) → x.dirty ≡ true → set (set xs f x) f (record (frame_at (set xs f x) f) { dirty = true }) ≡ set xs f x
dirty-again [] f x is = refl
dirty-again (y ∷ ys) zero x is = ap (λ b. record x { dirty = b } ∷ ys) (sym is)
dirty-again (y ∷ ys) (suc f) x is = ap (λ zs. y ∷ zs) (dirty-again ys f x is)

pub dirtied-again : (r : PageRef) (s : Places) (o : Option ℕ) → (rec_by s.segs r).frame ≡ o → dirtied (rec_by (dirtied o s).segs r).frame (dirtied o s) ≡ dirtied o s
dirtied-again r s None is = rw is refl
dirtied-again r s (Some f) is = rw (is, dirty-again s.frames f (record (frame_at s.frames f) { dirty = true }) refl) refl
