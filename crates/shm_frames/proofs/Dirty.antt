-- The frames that are dirty, and the first of them.
use Rattle.std.proofs.Common.{◌≡◌, ◌≢◌, ℕ, ◌+◌, ◌/◌, ◌<◌, ◌≤◌, Bool, true, false, List, length, Option, None, Some, true≢false, refl, sym, ap, ◌∙◌, inl, inr, arith}
use Rattle.std.proofs.lemmas.List.{get_or_past}
use Rattle.std.proofs.lemmas.Bool.{cases_lt}
use Rattle.shm_frames.specs.declared.frames.FrameState.{FrameState}
use Rattle.std.specs.Prelude.{IfSome}
use Rattle.shm_frames.specs.Frame.{Frame, frame_at, IsDirtyFrom, AreCleanUpTo}
use Rattle.shm_frames.specs.Table.{free_entry, state_at, CleanFrom, IsFrameTable}
use Rattle.std.specs.Int.{from_bool}
use Rattle.shm_frames.proofs.Counts.{changed-there}
use Rattle.shm_frames.proofs.Shown.{AreFramesShown, frame-shown, length-shown}

-- if none is counted, none is dirty
pub none-dirty : (table : List FrameState) (first owned : ℕ) → IsFrameTable table first owned 0 → CleanFrom table 0 (length table) None
none-dirty table first owned k i le lt = by (state_at table i).dirty refl
  where
    by : (b : Bool) → (state_at table i).dirty ≡ b → b ≡ false
    by false e = refl
    by true e =
        let counted : from_bool (state_at table i).dirty ≤ 0 = changed-there k lt refl in
        let one : from_bool true ≤ 0 = rw e at counted in
        absurd (omega (arith, one))

-- what is found for the entries holds for the frames
module _ {table : List FrameState} {pages : List (List ℕ)} {count : ℕ} {frames : List Frame} (s : AreFramesShown table pages count frames) (from : ℕ) where
  same : (i : ℕ) → (frame_at frames i).dirty ≡ (state_at table i).dirty
  same i = ap (λ (f : Frame). f.dirty) (frame-shown s i)

  past-clean : (i : ℕ) → length table ≤ i → (state_at table i).dirty ≡ false
  past-clean i past = ap (λ (e : FrameState). e.dirty) (get_or_past table i free_entry past)

  dirty-there : (i : ℕ) → (state_at table i).dirty ≡ true → i < length table
  dirty-there i dirty = elim (cases_lt i (length table)) [ inl l ↦ l | inr past ↦ absurd (true≢false (sym dirty ∙ past-clean i past)) ]

  pub found-shown : (o : Option ℕ) → IfSome o (λ f. (from ≤ f) × ((state_at table f).dirty ≡ true)) → IfSome o (IsDirtyFrom frames from)
  found-shown None e = tt
  found-shown (Some f) e =
      let in_table = dirty-there f e.1 in
      record { there = omega (arith, in_table, s.used.within, length-shown s); past = e.0; dirty = same f ∙ e.1 }

  pub clean-shown : (o : Option ℕ) → CleanFrom table from (length table) o → AreCleanUpTo frames from o
  clean-shown None clean = λ i le. elim (cases_lt i (length table)) [ inl l ↦ same i ∙ clean i le l | inr past ↦ same i ∙ past-clean i past ]
  clean-shown (Some n) clean = λ i le lt. same i ∙ clean i le lt
