-- The effects of a flush round.
use Rattle.std.specs.Prelude.{ℕ, ◌≡◌, ◌+◌, Bool, false, not, ◌&&◌, List, length, filter, take, count_by, min, Contains}
use Rattle.std.specs.List.{range_with_len}
use Rattle.shm_base.specs.declared.paging.PageRef.{PageRef}
use Rattle.shm_base.specs.declared.paging.FlushReport.{FlushReport}
use Rattle.shm_fault.specs.Held.{holds_locked}
use Rattle.shm_slots.specs.Cause.{total, some_spent}
use Rattle.shm_frames.specs.Frame.{frame_at}
use Rattle.shm_clock.specs.Clock.{owner_passes}
use Rattle.shm_fault.specs.Store.{StoreView, Still, held, marked}
use Rattle.shm_fault.specs.Sound.{IsStoreSound}
use Rattle.shm_fault.specs.Goes.{Goes, OnlyWrites}
use Rattle.shm_fault.specs.Counting.{one_if, raised}
use Rattle.shm_fault.specs.Placing.{places, after_flush, after_page_out}

-- the frame is dirty, and its segment is not locked
abbrev pub may_flush : StoreView → ℕ → Bool
may_flush s f =
    let frame = frame_at s.frames f in
    frame.dirty && owner_passes (λ (r : PageRef). not (holds_locked (held s) r.seg)) frame.owner

-- the dirty frames of segments that are not locked, in order
abbrev pub dirty_list : StoreView → List ℕ
dirty_list s = filter (may_flush s) (range_with_len 0 (length s.frames))

-- the first n of them
abbrev pub chosen : StoreView → ℕ → List ℕ
chosen s n = take n (dirty_list s)

abbrev pub dirty_after : StoreView → ℕ → Bool
dirty_after s f = (frame_at s.frames f).dirty

-- One dirty frame was written, or that failed and it is still dirty. The report counts which.
pub record WritesOne (f : ℕ) (s t : StoreView) (before after : FlushReport) : Type 0 where
  pub frames : t.frames ≡ marked s.frames f (dirty_after t f)
  pub still : Still s t
  pub goes : Goes s t
  pub sum : after.written + after.failed ≡ before.written + before.failed + 1
  pub failed : after.failed ≡ before.failed + one_if (dirty_after t f)
  pub counted : some_spent t.swap ≡ false → total t.swap ≡ total s.swap + one_if (dirty_after t f)
  pub written_out : (n : ℕ) → s.outs ≡ raised n before.written → t.outs ≡ raised n after.written
  pub rest : OnlyWrites s t
  pub placed : places t ≡ after_page_out f (not (dirty_after t f)) (places s)
  pub sound : IsStoreSound t

pub record IsFlushed (before after : StoreView) (n : ℕ) (report : FlushReport) : Type 0 where
  pub sum : report.written + report.failed ≡ min n (length (dirty_list before))
  pub failed : count_by (dirty_after after) (chosen before n) ≡ report.failed
  pub frames : (f : ℕ)
      → frame_at after.frames f ≡ record (frame_at before.frames f) { dirty = (frame_at after.frames f).dirty }
  pub others : (f : ℕ) → (Contains (chosen before n) f → ⊥)
      → frame_at after.frames f ≡ frame_at before.frames f
  pub counted : some_spent after.swap ≡ false → total after.swap ≡ total before.swap + report.failed
  -- the pages that were written are counted, none is read, and the hand stays
  pub written_out : after.outs ≡ raised before.outs report.written
  pub read_in : after.ins ≡ before.ins
  pub hand : after.hand ≡ before.hand
  -- each chosen page was written to its slot, or the write failed; nothing else was placed or moved
  pub places : places after ≡ after_flush (dirty_after after) (chosen before n) (places before)
