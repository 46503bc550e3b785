-- What the marks of the frames' blocks say of whose pages may go.
use Rattle.std.specs.Prelude.{ℕ, ◌≡◌, ◌<◌, ◌/◌, Bool, true, false, List, length}
use Rattle.shm_base.specs.declared.paging.PageRef.{PageRef}
use Rattle.shm_frames.specs.Frame.{Frame, frame_at}
use Rattle.shm_frames.specs.Skips.{is_skipped}
use Rattle.shm_clock.specs.Clock.{owner_passes}

-- each block has a mark, and in a block that is skipped no frame's page may go, be it pinned or not
pub record AreSkipped (passes : PageRef → Bool) (frames : List Frame) (skips : List Bool) : Type 0 where
  pub room : length frames / 64 < length skips
  pub stay : (i : ℕ) → is_skipped skips i ≡ true → owner_passes passes (frame_at frames i).owner ≡ false
