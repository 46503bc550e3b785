-- Blocks that the hand steps over.
use Rattle.std.proofs.Common.{◌≡◌, ℕ, zero, suc, ◌+◌, ◌-◌, ◌/◌, ◌%◌, ◌<◌, ◌≤◌, List, length, get_or, replicate, Bool, true, false, not, ◌&&◌, Option, true≢false, refl, sym, ap, ◌∙◌, inl, inr, arith, length-set}
use Rattle.std.proofs.lemmas.Bool.{cases_eq}
use Rattle.std.proofs.lemmas.List.{length-replicate}
use Rattle.shm_base.specs.declared.paging.PageRef.{PageRef}
use Rattle.shm_frames.specs.Frame.{Frame, frame_at}
use Rattle.shm_clock.specs.Clock.{ring_at, owner_passes, is_pinned, may_go, unset}
use Rattle.shm_frames.specs.Skips.{is_skipped}
use Rattle.shm_clock.specs.Skips.{AreSkipped}
use Rattle.shm_clock.proofs.Ring.{ring_at-low, ring_at-high}
use Rattle.shm_clock.proofs.Bits.{unset-at}
use Rattle.shm_clock.proofs.Turning.{IsOnWay, passes_over}

module _ (passes : PageRef → Bool) where
  -- a bit that is cleared changes no owner
  pub skipped-unset : (frames : List Frame) (skips : List Bool) (k : ℕ) → AreSkipped passes frames skips → AreSkipped passes (unset frames k) skips
  skipped-unset frames skips k s = record {
    room = rw (length-set frames k (record (frame_at frames k) { referenced = false })) s.room;
    stay = λ i skip. ap (λ (f : Frame). owner_passes passes f.owner) (unset-at frames k i) ∙ s.stay i skip;
  }

-- where the ring has not come round, the frames follow one another
ring_at-on : (hand n step j : ℕ) → hand < n → step ≤ j → j < n → ring_at hand n step + (j - step) < n → ring_at hand n j ≡ ring_at hand n step + (j - step)
ring_at-on hand n step j on le lt within = grind (arith, ring_at-low, ring_at-high)

module _ (passes : PageRef → Bool) (pinned : Option ℕ) (hand : ℕ) (before : List Frame) (on : hand < length before) where
  over : (k looked step : ℕ) (now : List Frame) (first : Option ℕ) (looks : ℕ) → IsOnWay passes pinned hand before looked step now first looks → step + k ≤ length before
      → ((j : ℕ) → step ≤ j → j < step + k → may_go passes pinned now (ring_at hand (length before) j) ≡ false) → IsOnWay passes pinned hand before looked (step + k) now first looks
  over zero looked step now first looks way le none = let e : step + zero ≡ step = omega arith in rw e way
  over (suc k) looked step now first looks way le none =
      let one = over k looked step now first looks way (omega (arith, le)) (λ j past lt. none j past (omega (arith, lt))) in
      let next = passes_over passes pinned hand before on looked (step + k) now first looks (ring_at hand (length before) (step + k)) one (omega (arith, le)) refl (none (step + k) (omega arith) (omega arith)) in
      let e : step + suc k ≡ step + k + 1 = omega arith in
      rw e next

  not-first : (b c : Bool) → b ≡ false → (b && not c) ≡ false
  not-first false c e = refl
  not-first true c e = absurd (true≢false e)

  -- the hand steps on from a frame that may not be taken, over others whose pages may not leave
  pub strides : (looked step : ℕ) (now : List Frame) (first : Option ℕ) (looks i k m : ℕ) → IsOnWay passes pinned hand before looked step now first looks → step < length before → i ≡ ring_at hand (length before) step
      → may_go passes pinned now i ≡ false → i + k ≤ length now → ((j : ℕ) → i < j → j < i + k → owner_passes passes (frame_at now j).owner ≡ false) → m ≤ k → step + m ≤ length before
      → IsOnWay passes pinned hand before looked (step + m) now first looks
  strides looked step now first looks i k m way lt at here within rest small fits =
      over m looked step now first looks way fits (λ j past less. elim (cases_eq j step) [
        | inl e ↦ rw (e, ← at) here
        | inr ne ↦
            let near : i + (j - step) < i + k = omega (arith, past, less, small) in
            let less_n : ring_at hand (length before) step + (j - step) < length before = rw (← at) (omega (arith, near, within, way.size)) in
            let there : ring_at hand (length before) j ≡ i + (j - step) = ring_at-on hand (length before) step j on past (omega (arith, less, fits)) less_n ∙ rw (← at) refl in
            rw there (not-first (owner_passes passes (frame_at now (i + (j - step))).owner) (is_pinned pinned (i + (j - step))) (rest (i + (j - step)) (omega (arith, past, ne)) near))
      ])

get_or-same : (n i : ℕ) → get_or (replicate n false) i false ≡ false
get_or-same zero i = refl
get_or-same (suc n) zero = refl
get_or-same (suc n) (suc i) = get_or-same n i

-- where no block is skipped
pub skipped-none : (passes : PageRef → Bool) (frames : List Frame) (blocks : ℕ) → length frames / 64 < blocks → AreSkipped passes frames (replicate blocks false)
skipped-none passes frames blocks room = record {
  room = rw (length-replicate blocks false) room;
  stay = λ i skip. absurd (true≢false (sym skip ∙ none i));
}
  where
    none : (i : ℕ) → is_skipped (replicate blocks false) i ≡ false
    none i = get_or-same blocks (i / 64)
