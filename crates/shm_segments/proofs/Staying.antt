-- The pages after a segment was added, locked or dropped.
use Rattle.shm_segments.proofs.Names.{common_steps, List, ◌≡◌, ◌≢◌, ℕ, zero, suc, ◌≤◌, ◌<◌, Bool, true, false, not, length, map, Option, Some, None, is_some, refl, sym, ap, ◌∙◌, arith, inl, inr, ◌⊎◌, cases_eq, StoreView, held, is_held, with_lock, with_seg, find_seg, but, find-without_same, find-without_other, find-zeros_other, not-held, rec-added, IsStoreSound, Frame, nat_tests, ◌==◌, eq-eqb, ne_eqb, if◌then◌else◌, false≢true, ◌&&◌, PageRef, owner_of, sizes, total, no_frame, frame_at, Drops, SegRec, no_page, rec_by, rec_in, with_seg_lock, count_by_id, lock_changed, disowned, KeepsId, held-map, other-true, rec-with_other, rec-locked, held-added}
use Rattle.std.proofs.Math.Path.{fun_ext}
use Rattle.shm_fault.proofs.Entries.{find-but}
use Rattle.shm_fault.specs.declared.page_tables.PageRec.{PageRec}
use Rattle.shm_fault.specs.Placing.{Places, bare, places, after_forget, after_forgets, without_segment, frame_freed}
use Rattle.shm_fault.proofs.Slots.{set-cases}
use Rattle.shm_fault.proofs.Placed.{bare-at}
use Rattle.shm_segments.specs.Staying.{has_ended, is_lost, owner_left, frame_left, EndsNone, MovesNone, Ends}

-- NOTHING HAPPENED

never : (b : Bool) → b && not b ≡ false
never true = refl
never false = refl

kept-owner : (ended : ℕ → Bool) (o : Option PageRef) → ((seg : ℕ) → ended seg ≡ false) → is_lost ended o ≡ false
kept-owner ended None none = refl
kept-owner ended (Some r) none = none r.seg

-- nothing changed but the list of segments, and the same ones are there
pub moves-same : (s t : StoreView) → t ≡ record s { segs = t.segs } → ((seg : ℕ) → is_held (held t) seg ≡ true → (page : ℕ) → rec_by t.segs (record { seg = seg; page = page }) ≡ rec_by s.segs (record { seg = seg; page = page }))
    → EndsNone s t → MovesNone s t
moves-same s t rest rows stay =
    let none : (seg : ℕ) → has_ended s t seg ≡ false = λ seg. grind (arith, stay seg) in
    record {
      pages = λ r there. rows r.seg there r.page;
      frames = λ f. rw (kept-owner (has_ended s t) (frame_at s.frames f).owner none) (ap (λ (m : StoreView). bare (frame_at m.frames f)) rest);
      slots = λ k. rw (kept-owner (has_ended s t) (owner_of s.swap k.area k.slot) none) (ap (λ (m : StoreView). owner_of m.swap k.area k.slot) rest);
      hand = ap (λ (m : StoreView). m.hand) rest;
      count = ap (λ (m : StoreView). length m.frames) rest;
      same_sizes = ap (λ (m : StoreView). sizes m.swap) rest;
      uncounted = record { ins = ap (λ (m : StoreView). m.ins) rest; outs = ap (λ (m : StoreView). m.outs) rest };
      failures = ap (λ (m : StoreView). total m.swap) rest;
      still = λ _. rest;
    }

pub moves-refl : (m : StoreView) → MovesNone m m
moves-refl m = moves-same m m refl (λ seg there page. refl) (λ seg there. there)

pub ends-refl : (m : StoreView) → Ends m m
ends-refl m = record { moves = moves-refl m; fewer = λ seg there. there }

-- A SEGMENT WAS ADDED OR LOCKED

pub moves-added : (s t : StoreView) (id n : ℕ) → IsStoreSound s → is_held (held s) id ≡ false → t ≡ record s { segs = with_seg s.segs id n } → MovesNone s t
moves-added s t id n sound new is =
    let none : find_seg s.segs id ≡ None = not-held s sound id new in
    let rest : t ≡ record s { segs = t.segs } = is ∙ ap (λ (gs : List SegRec). record s { segs = gs }) (ap (λ (m : StoreView). m.segs) (sym is)) in
    moves-same s t rest (λ seg there page. rw is (rec-added s sound id n none (record { seg = seg; page = page })))
    (λ seg there. elim (cases_eq seg id) [
      | inl e ↦ absurd (false≢true (sym new ∙ (rw e at there)))
      | inr ne ↦ rw (is, held-added s sound id n none, find-zeros_other (held s) id n seg ne) there
    ])

pub moves-locked : (s t : StoreView) (id : ℕ) (locked : Bool) → IsStoreSound s → t ≡ record s { segs = map (with_seg_lock id locked) s.segs } → held t ≡ with_lock (held s) id locked → MovesNone s t
moves-locked s t id locked sound is holds =
    let rest : t ≡ record s { segs = t.segs } = is ∙ ap (λ (gs : List SegRec). record s { segs = gs }) (ap (λ (m : StoreView). m.segs) (sym is)) in
    moves-same s t rest (λ seg there page. rw is (rec-locked s sound id locked (record { seg = seg; page = page })))
    (λ seg there. rw (holds, held-map (lock_changed id locked) (lock-id id locked) (held s) seg) there)
  where
    lock-id : (id : ℕ) (locked : Bool) → KeepsId (lock_changed id locked)
    lock-id id locked g = grind (arith, nat_tests, g.id)

-- A SEGMENT WAS DROPPED

module _ (seg : ℕ) where
  -- pages that were not forgotten yet are where they were
  forgets-rec : (n : ℕ) (p : Places) (q : PageRef) → (q.seg ≡ seg → n ≤ q.page) → rec_by (after_forgets seg n p).segs q ≡ rec_by p.segs q
  unfolding after_forgets after_forget
  forgets-rec zero p q far = refl
  forgets-rec (suc n) p q far =
      let apart : q ≢ record { seg = seg; page = n } = λ e. let more = far (ap (λ (r : PageRef). r.seg) e) in let same = ap (λ (r : PageRef). r.page) e in omega (arith, more, same) in
      rec-with_other (after_forgets seg n p).segs (record { seg = seg; page = n }) q no_page (other-true (record { seg = seg; page = n }) q apart)
      ∙ forgets-rec n p q (λ e. let more = far e in omega (arith, more))

  forgets-hand : (n : ℕ) (p : Places) → (after_forgets seg n p).hand ≡ p.hand
  unfolding after_forgets after_forget
  forgets-hand zero p = refl
  forgets-hand (suc n) p = forgets-hand n p

  -- a frame is as it was, or is free, and had a page of the segment
  abbrev Freed : StoreView → ℕ → Frame → Type 0
  Freed s f x = (x ≡ bare (frame_at s.frames f)) ⊎ ((x ≡ no_frame) × (is_lost (λ id. id == seg) (frame_at s.frames f).owner ≡ true))

  module _ (s : StoreView) (sound : IsStoreSound s) where
    freed-frame : (n f : ℕ) (fs : List Frame) (o : Option ℕ) → n < count_by_id s.segs seg → (rec_by s.segs (record { seg = seg; page = n })).frame ≡ o → Freed s f (frame_at fs f) → Freed s f (frame_at (frame_freed o fs) f)
    freed-frame n f fs None lt is was = was
    freed-frame n f fs (Some k) lt is was = elim (set-cases fs k no_frame no_frame f) [
      | inl here ↦
          let tied = (sound.tied.pages (record { seg = seg; page = n }) lt).frame_owned k is in
          let owner : (frame_at s.frames f).owner ≡ Some (record { seg = seg; page = n }) = rw here.0 tied.1 in
          inr (here.1, rw (owner, eq-eqb seg seg refl) refl)
      | inr kept ↦ rw kept was
    ]

    forgets-frame : (n f : ℕ) → n ≤ count_by_id s.segs seg → Freed s f (frame_at (after_forgets seg n (places s)).frames f)
    unfolding after_forgets after_forget places
    forgets-frame zero f le = inl (bare-at s.frames f)
    forgets-frame (suc n) f le =
        let same : (rec_by (after_forgets seg n (places s)).segs (record { seg = seg; page = n })).frame ≡ (rec_by s.segs (record { seg = seg; page = n })).frame =
        ap (λ (p : PageRec). p.frame) (forgets-rec n (places s) (record { seg = seg; page = n }) (λ _. omega arith)) in
        rw same (freed-frame n f (after_forgets seg n (places s)).frames _ (omega (arith, le)) refl (forgets-frame n f (omega (arith, le))))

    disowned-left : (o : Option PageRef) → disowned seg o ≡ owner_left (λ id. id == seg) o
    disowned-left None = refl
    disowned-left (Some r) = refl

    lost-none : (o : Option PageRef) → is_lost (λ id. id == seg) o ≡ true → disowned seg o ≡ None
    lost-none None is = refl
    lost-none (Some r) is = rw is refl

    left-frame : (x y : Frame) → y.owner ≡ disowned seg x.owner → (bare y ≡ bare x) ⊎ ((bare y ≡ no_frame) × (is_lost (λ id. id == seg) x.owner ≡ true)) → bare y ≡ frame_left (λ id. id == seg) x
    left-frame x y owner (inr free) = rw free.1 free.0
    left-frame x y owner (inl same) = by (is_lost (λ id. id == seg) x.owner) refl
      where
        by : (b : Bool) → is_lost (λ id. id == seg) x.owner ≡ b → bare y ≡ (if b then no_frame else bare x)
        by false is = same
        by true is =
            let none : x.owner ≡ None = ap (λ (z : Frame). z.owner) (sym same) ∙ owner ∙ lost-none x.owner is in
            absurd (false≢true (rw none at is))

    module _ (t : StoreView) (there : is_held (held s) seg ≡ true) (d : Drops seg s t) where
      still-held : (id : ℕ) → id ≢ seg → is_held (held t) id ≡ is_held (held s) id
      still-held id ne = rw d.held (ap is_some (find-without_other (held s) seg id ne))

      gone : is_held (held t) seg ≡ false
      gone = rw d.held (ap is_some (find-without_same (held s) seg))

      ended-is : has_ended s t ≡ (λ id. id == seg)
      ended-is = fun_ext (λ id. elim (cases_eq id seg) [
        | inl e ↦ rw (e, there, gone, eq-eqb seg seg refl) refl
        | inr ne ↦ rw (still-held id ne, ne_eqb id seg ne) (never (is_held (held s) id))
      ])

      held-other : (id : ℕ) → is_held (held t) id ≡ true → id ≢ seg
      held-other id is e = false≢true (sym gone ∙ (rw e at is))

      rows : (r : PageRef) → r.seg ≢ seg → rec_by t.segs r ≡ rec_by s.segs r
      unfolding places without_segment
      rows r ne =
          let n = count_by_id s.segs seg in
          let segs : t.segs ≡ but seg (after_forgets seg n (places s)).segs = ap (λ (p : Places). p.segs) d.places in
          rw segs (ap (λ (o : Option SegRec). rec_in o r.page) (find-but (after_forgets seg n (places s)).segs seg r.seg ne) ∙ forgets-rec n (places s) r (λ e. absurd (ne e)))

      frames : (f : ℕ) → bare (frame_at t.frames f) ≡ frame_left (λ id. id == seg) (frame_at s.frames f)
      unfolding places without_segment
      frames f =
          let n = count_by_id s.segs seg in
          let is : bare (frame_at t.frames f) ≡ frame_at (after_forgets seg n (places s)).frames f = sym (bare-at t.frames f) ∙ ap (λ (p : Places). frame_at p.frames f) d.places in
          left-frame (frame_at s.frames f) (frame_at t.frames f) (d.frames f) (rw (← is) at (forgets-frame n f (omega arith)))

      pub ends-dropped : Ends s t
      unfolding places without_segment
      ends-dropped = record {
        moves =
            record {
              pages = λ r is. rows r (held-other r.seg is);
              frames = λ f. rw ended-is (frames f);
              slots = λ k. rw ended-is (d.slots k.area k.slot ∙ disowned-left (owner_of s.swap k.area k.slot));
              hand = ap (λ (p : Places). p.hand) d.places ∙ forgets-hand (count_by_id s.segs seg) (places s);
              count = d.count;
              same_sizes = d.sizes;
              uncounted = d.rest;
              failures = d.counts.0;
              still = λ none. absurd (false≢true (sym gone ∙ none seg there));
            };
        fewer = λ id is. sym (still-held id (held-other id is)) ∙ is;
      }

-- ONE AFTER ANOTHER

-- a frame's bytes do not matter
left-bare : (ended : ℕ → Bool) (x : Frame) → frame_left ended (bare x) ≡ frame_left ended x
left-bare ended x = refl

module _ (a b c : StoreView) (p : Ends a b) (q : Ends b c) where
  ended-twice : (id : ℕ) → has_ended a c id ≡ (if has_ended a b id then true else has_ended b c id)
  ended-twice id = grind (arith, common_steps, nat_tests)

  lost-twice : (o : Option PageRef) → is_lost (has_ended a c) o ≡ (if is_lost (has_ended a b) o then true else is_lost (has_ended b c) o)
  lost-twice None = refl
  lost-twice (Some r) = ended-twice r.seg

  frame-twice : (x y : Frame) → bare y ≡ frame_left (has_ended a b) x → frame_left (has_ended b c) y ≡ frame_left (has_ended a c) x
  frame-twice x y is = sym (left-bare (has_ended b c) y) ∙ ap (frame_left (has_ended b c)) is ∙ by (is_lost (has_ended a b) x.owner) refl
    where
      by : (e : Bool) → is_lost (has_ended a b) x.owner ≡ e → frame_left (has_ended b c) (if e then no_frame else bare x) ≡ frame_left (has_ended a c) x
      by true is = rw (lost-twice x.owner, is) refl
      by false is = rw (lost-twice x.owner, is) refl

  owner-twice : (o : Option PageRef) → owner_left (has_ended b c) (owner_left (has_ended a b) o) ≡ owner_left (has_ended a c) o
  owner-twice o = by (is_lost (has_ended a b) o) refl
    where
      by : (e : Bool) → is_lost (has_ended a b) o ≡ e → owner_left (has_ended b c) (if e then None else o) ≡ owner_left (has_ended a c) o
      by true is = rw (lost-twice o, is) refl
      by false is = rw (lost-twice o, is) refl

  pub ends-trans : Ends a c
  ends-trans =
      let m = p.moves in
      let n = q.moves in
      record {
        moves =
            record {
              pages = λ r is. n.pages r is ∙ m.pages r (q.fewer r.seg is);
              frames = λ f. n.frames f ∙ frame-twice (frame_at a.frames f) (frame_at b.frames f) (m.frames f);
              slots = λ k. n.slots k ∙ ap (owner_left (has_ended b c)) (m.slots k) ∙ owner-twice (owner_of a.swap k.area k.slot);
              hand = n.hand ∙ m.hand;
              count = n.count ∙ m.count;
              same_sizes = n.same_sizes ∙ m.same_sizes;
              uncounted = record { ins = n.uncounted.ins ∙ m.uncounted.ins; outs = n.uncounted.outs ∙ m.uncounted.outs };
              failures = n.failures ∙ m.failures;
              still = λ stay.
                  let first = m.still (λ id is. q.fewer id (stay id is)) in
                  let second = n.still (λ id is. stay id (p.fewer id is)) in
                  second ∙ ap (λ (v : StoreView). record v { segs = c.segs }) first;
            };
        fewer = λ id is. p.fewer id (q.fewer id is);
      }
