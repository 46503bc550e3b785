-- The listing of a machine: the header, and a line for each segment.
use Rattle.std.specs.Prelude.{ℕ, ◌+◌, ℤ, List, [], ◌∷◌, ◌++◌, Option, Some, None}
use Rattle.shm_base.specs.State.{Entry, Machine}
use Rattle.shm_base.specs.Identifier.{identifier}
use Rattle.shm_base.specs.declared.call.ShmidDs.{ShmidDs}
use Rattle.shm_life.specs.Listed.{listed_segment}
use Rattle.shm_print.specs.Listing.{header_line, segment_line}

-- the line of a segment, if there is one
abbrev pub line_shown : Option (ℤ × ShmidDs) → List ℕ
line_shown None = []
line_shown (Some shown) = segment_line shown.0 shown.1

-- the lines of the table from index i on
abbrev pub lines_from : Machine → ℕ → List Entry → List ℕ
lines_from m i [] = []
lines_from m i (e ∷ es) = line_shown (listed_segment m (identifier i e.destroyed) e.segment) ++ lines_from m (i + 1) es

-- the header, and a line for each segment in order of their indexes
abbrev pub listing_of : Machine → List ℕ
listing_of m = header_line ++ lines_from m 0 m.table
