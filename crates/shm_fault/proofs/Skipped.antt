-- The blocks that the hand steps over, once frames, page tables or locks have changed.
use Rattle.shm_fault.proofs.Names.{arith, nat_tests, common_steps, ◌≡◌, ◌⊎◌, ℕ, ◌/◌, ◌<◌, Bool, false, not, List, set, Option, Some, None, refl, ap, ◌∙◌, inl, inr, length-set, cases_eq, PageRef, Frame, no_frame, frame_at, PageRec, SegRec, but, find_seg, locked_by, new_seg, with_seg, count_by_id, HasPage, with_rec, StoreView, IsStoreSound, unlocked, owner_passes, emptied, AreSkipped}
use Rattle.shm_fault.proofs.Slots.{set-cases}
use Rattle.shm_fault.proofs.Pages.{locked-same, outlines-with}
use Rattle.shm_fault.proofs.Entries.{find-but, find-out}
use Rattle.shm_fault.proofs.Ordered.{find-seg_same, find-seg_other}

-- who may go depends on the locks alone
passes-same : (gs hs : List SegRec) (o : Option PageRef) → ((id : ℕ) → locked_by hs id ≡ locked_by gs id) → owner_passes (unlocked hs) o ≡ owner_passes (unlocked gs) o
passes-same gs hs None same = refl
passes-same gs hs (Some r) same = ap not (same r.seg)

-- the locks are as they were
pub skipped-locks : (gs hs : List SegRec) (frames : List Frame) (skips : List Bool) → ((id : ℕ) → locked_by hs id ≡ locked_by gs id) → AreSkipped (unlocked gs) frames skips → AreSkipped (unlocked hs) frames skips
skipped-locks gs hs frames skips same s = record {
  room = s.room;
  stay = λ i skip. passes-same gs hs (frame_at frames i).owner same ∙ s.stay i skip;
}

-- where one page is
pub skipped-with : (gs : List SegRec) (r : PageRef) (p : PageRec) (frames : List Frame) (skips : List Bool) → AreSkipped (unlocked gs) frames skips → AreSkipped (unlocked (with_rec gs r p)) frames skips
skipped-with gs r p frames skips s = skipped-locks gs (with_rec gs r p) frames skips (λ id. locked-same gs (with_rec gs r p) id (outlines-with gs r p)) s

module _ (passes : PageRef → Bool) (frames : List Frame) (skips : List Bool) (s : AreSkipped passes frames skips) where
  -- a frame changes that keeps its owner or has none then
  pub skipped-set : (f : ℕ) (x : Frame) → (x.owner ≡ (frame_at frames f).owner) ⊎ (x.owner ≡ None) → AreSkipped passes (set frames f x) skips
  skipped-set f x owner = record { room = rw (length-set frames f x) s.room; stay = λ i skip. grind (arith, nat_tests, common_steps, set-cases, s.stay) }

  -- a frame gets an owner, and its block is forgotten
  pub skipped-given : (f : ℕ) (x : Frame) → AreSkipped passes (set frames f x) (set skips (f / 64) false)
  skipped-given f x = record {
    room = rw (length-set frames f x, length-set skips (f / 64) false) s.room;
    stay = λ i skip. grind (arith, nat_tests, common_steps, set-cases, s.stay);
  }

  -- the frame of a page becomes free, if it has one
  pub skipped-emptied : (frame : Option ℕ) → AreSkipped passes (emptied frames frame) skips
  skipped-emptied None = s
  skipped-emptied (Some f) = skipped-set f (record no_frame { bytes = (frame_at frames f).bytes }) (inr refl)

-- a segment is added, which is not locked
pub locked-added : (gs : List SegRec) (id pages k : ℕ) → find_seg gs id ≡ None → locked_by (with_seg gs id pages) k ≡ locked_by gs k
locked-added gs id pages k new =
    elim (cases_eq id k) [
      | inl e ↦
          let none : find_seg gs k ≡ None = rw e at new in
          let here : find_seg (with_seg gs id pages) k ≡ Some (new_seg id pages) = rw (← e) (find-seg_same gs (new_seg id pages) new) in
          rw (here, none) refl
      | inr ne ↦ rw (find-seg_other gs (new_seg id pages) k ne) refl
    ]

-- a segment is taken out
pub skipped-but : (t : StoreView) (id : ℕ) (skips : List Bool) → IsStoreSound (record t { segs = but id t.segs }) → AreSkipped (unlocked t.segs) t.frames skips → AreSkipped (unlocked (but id t.segs)) t.frames skips
skipped-but t id skips sound s = record {
  room = s.room;
  stay = λ i skip. by i (frame_at t.frames i).owner refl (s.stay i skip);
}
  where
    by : (i : ℕ) (o : Option PageRef) → (frame_at t.frames i).owner ≡ o → owner_passes (unlocked t.segs) (frame_at t.frames i).owner ≡ false → owner_passes (unlocked (but id t.segs)) (frame_at t.frames i).owner ≡ false
    by i None e stay = rw e refl
    by i (Some r) e stay =
        let has : HasPage (but id t.segs) r = sound.tied.owners i r e in
        let was : not (locked_by t.segs r.seg) ≡ false = rw e at stay in
        elim (cases_eq r.seg id) [
          | inl same ↦
              let has₁ : r.page < count_by_id (but id t.segs) id = rw same at has in
              let none : r.page < 0 = rw (find-out t.segs id) at has₁ in
              absurd (omega (arith, none))
          | inr other ↦ rw (e, find-but t.segs id r.seg other) was
        ]
