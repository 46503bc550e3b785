-- What a turn of the hand needs, and what it changes.
use Rattle.std.specs.Prelude.{ℕ, ◌≡◌, ◌≢◌, ◌+◌, ◌<◌, ◌≤◌, Bool, Option, List, [], length}
use Rattle.shm_base.specs.declared.paging.PageRef.{PageRef}
use Rattle.shm_frames.specs.Frame.{Frame}
use Rattle.shm_clock.specs.Clock.{may_go, candidates, victim_of, passed_by, unset_all, looked_at, next, IsClockVictim}
use Rattle.shm_clock.specs.Skips.{AreSkipped}

-- the hand is at a frame, some page may be evicted, and none of those in the blocks that are skipped
pub record CanTurn
    (passes : PageRef → Bool) (pinned : Option ℕ) (hand : ℕ) (frames : List Frame) (skips : List Bool)
    : Type 0 where
  pub there : hand < length frames
  pub one : candidates passes pinned frames hand ≢ []
  pub skipped : AreSkipped passes frames skips

-- the rule as a list of frames: which frame is the victim's, and which bits become clear
pub record Turns
    (passes : PageRef → Bool) (pinned : Option ℕ) (hand : ℕ) (before after : List Frame) (skips : List Bool)
    (frame : ℕ) : Type 0 where
  pub there : frame < length before
  pub victim : frame ≡ victim_of before (candidates passes pinned before hand)
  pub bits : after ≡ unset_all before (passed_by before (candidates passes pinned before hand))
  pub skipped : AreSkipped passes after skips

-- the hand turned, and is at the frame after the victim; the rule once more, frame by frame
pub record FindsVictim
    (passes : PageRef → Bool) (pinned : Option ℕ) (from to : ℕ) (before after : List Frame) (skips : List Bool)
    (frame : ℕ) : Type 0 where
  pub turned : Turns passes pinned from before after skips frame
  pub hand : to ≡ next (length before) frame
  pub clock : IsClockVictim (may_go passes pinned before) from before frame after

-- the bits that were looked at, each once at most: those that were passed, and the victim's if it was clear
pub record CountsLooks (before : List Frame) (going : List ℕ) (frame looks looks' : ℕ) : Type 0 where
  pub most : looks' ≤ looks + length before
  pub counted : looks' ≡ looks + looked_at before going frame
