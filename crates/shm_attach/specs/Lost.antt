-- The segments that a change of pieces concerns, as contracts see them.
use Rattle.std.specs.Prelude.{ℕ, List}

-- the segments, and the most that there may be
pub record LostView : Type 0 where
  pub segments : List ℕ
  pub most : ℕ
