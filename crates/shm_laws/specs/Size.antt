-- Size: a segment has the whole pages that its size needs, from its creation to its end.
use Rattle.std.specs.Prelude.{◌≡◌, ◌≤◌, ◌<◌, ℕ, ◌+◌, ◌%◌, List, length}
use Rattle.shm_base.specs.declared.call.Event.{Event}
use Rattle.shm_base.specs.State.{Segment, Machine, Opening}
use Rattle.shm_laws.specs.Standing.{Stands, EachMove, Always}
use Rattle.shm_base.specs.declared.paging.TheConstants.{PAGE_SIZE}

-- a segment has a size, and the fewest whole pages that hold it
pub record FillsPages (x : Segment) : Type 0 where
  pub some : 1 ≤ x.size
  pub whole : length x.bytes % PAGE_SIZE ≡ 0
  pub enough : x.size ≤ length x.bytes
  pub least : length x.bytes < x.size + PAGE_SIZE

-- this holds of each segment that exists
abbrev pub AllFillPages : Machine → Type 0
AllFillPages s = (id : ℕ) (x : Segment) → Stands s id x → FillsPages x

-- a segment that exists before a move and after it keeps its size, and has as many bytes
abbrev pub KeepsSizes : Machine → Event → Machine → Type 0
KeepsSizes s e t =
    (id : ℕ) (x y : Segment) → Stands s id x → Stands t id y
    → (y.size ≡ x.size) × (length y.bytes ≡ length x.bytes)

-- THE LAW. At each moment each segment fills its pages, and each move keeps the sizes
pub record HaveTheirPages (o : Opening) (events : List Event) (end : Machine) : Type 0 where
  pub pages : Always (λ before s. AllFillPages s) o events
  pub kept : EachMove KeepsSizes o events end
