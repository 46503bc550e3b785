-- Lists of which only the first items are stored.
use Rattle.std.specs.Prelude.{ℕ, ◌-◌, List, ◌++◌, length, replicate}

module _ {X : Type 0} where
  -- `count` items: the stored ones, and then `other` for each that is not stored
  abbrev pub padded : List X → ℕ → X → List X
  padded stored count other = stored ++ replicate (count - length stored) other
