-- The invariant of a machine's limits, segments and pieces. Within a call the segments in `lost` may be marked and have no
-- pieces.
use Rattle.std.specs.Prelude.{ℕ, ◌≡◌, ◌≢◌, ◌≤◌, ◌+◌, List, [], length, AllPairs}
use Rattle.shm_base.specs.Bounds.{Bounds, lockable}
use Rattle.shm_base.specs.State.{Entry, Runner}
use Rattle.shm_base.specs.Segments.{reserved, locked}
use Rattle.shm_fault.specs.Store.{StoreView}
use Rattle.shm_attach.specs.Spaces.{SpacesView, Translation, AreTrue}
use Rattle.shm_segments.specs.View.{SegmentsView}
use Rattle.shm_life.specs.Tied.{PiecesFit}
use Rattle.shm_life.specs.Orphans.{OrphansAmong}
use Rattle.shm_base.specs.declared.bounds.TheConstants.{INDEXES, MOST_FRAMES, MOST_SHMALL}

-- there are at most as many processes as allowed, and no two have one pid
pub record AreProcesses (most : ℕ) (rs : List Runner) : Type 0 where
  pub few : length rs ≤ most
  pub apart : AllPairs (λ (p q : Runner). p.pid ≢ q.pid) rs

pub record IsTableSoundBut
    (lost : List ℕ) (limits : Bounds) (table : List Entry) (rs : List Runner) : Type 0 where
  pub few : length table ≤ INDEXES
  pub reserved : reserved table ≤ limits.shmall
  pub shmall : limits.shmall ≤ MOST_SHMALL
  pub locked : locked table ≤ lockable limits
  pub lockable : lockable limits ≤ MOST_FRAMES
  pub pieces : PiecesFit table rs
  pub orphans : OrphansAmong lost rs table
  pub processes : AreProcesses limits.most_processes rs

-- the same; and there are as many frames as the limits say, two more than may be locked, and each translation is true of the
-- memory
pub record IsWellBut
    (lost : List ℕ) (limits : Bounds) (table : List Entry) (rs : List Runner) (ts : List Translation)
    (memory : StoreView) : Type 0 where
  pub kept : IsTableSoundBut lost limits table rs
  pub frames : length memory.frames ≡ limits.frames
  pub room : lockable limits + 2 ≤ limits.frames
  pub translated : AreTrue ts memory

-- between calls every marked segment has pieces
abbrev pub IsTableSound : Bounds → List Entry → List Runner → Type 0
IsTableSound limits table rs = IsTableSoundBut [] limits table rs

abbrev pub IsWell : Bounds → List Entry → List Runner → List Translation → StoreView → Type 0
IsWell limits table rs ts memory = IsWellBut [] limits table rs ts memory

-- for any limits: if only the segments in `lost` could be marked without pieces before, none is afterwards
abbrev pub MakesWell : List ℕ → SpacesView → SegmentsView → SegmentsView → Type 0
MakesWell lost spaces before after =
    (limits : Bounds)
    → IsWellBut lost limits before.table spaces.runners spaces.translations before.memory
    → IsWell limits after.table spaces.runners spaces.translations after.memory
