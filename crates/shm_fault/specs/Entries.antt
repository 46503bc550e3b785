-- The stored segments, by index, as contracts see them.
use Rattle.std.specs.Prelude.{ℕ, ◌≡◌, ◌+◌, ◌%◌, List, [], ◌∷◌, Option, Some, None, get_or}
use Rattle.shm_base.specs.declared.bounds.TheConstants.{INDEXES}
use Rattle.shm_fault.specs.Segs.{SegRec}

-- the segments that there are, in order of their indexes
abbrev pub present : List (Option SegRec) → List SegRec
present [] = []
present (None ∷ os) = present os
present (Some g ∷ os) = g ∷ present os

-- each segment is at its index; the first entry is at index `first`
abbrev pub AreIndexed : ℕ → List (Option SegRec) → Type 0
AreIndexed first os = (k : ℕ) (g : SegRec) → get_or os k None ≡ Some g → g.id % INDEXES ≡ first + k
