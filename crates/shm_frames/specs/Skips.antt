-- Blocks of 64 frames that the clock's hand skips.
use Rattle.std.specs.Prelude.{ℕ, ◌/◌, Bool, false, List, get_or}

-- whether the block of a frame is marked
abbrev pub is_skipped : List Bool → ℕ → Bool
is_skipped skips i = get_or skips (i / 64) false
