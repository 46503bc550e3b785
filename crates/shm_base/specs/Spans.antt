-- Spans of bytes of segments, as the places that they cover.
use Rattle.std.specs.Prelude.{ℕ, zero, suc, ◌+◌, ◌*◌, ◌/◌, ◌<◌, ◌≤◌, Bool, List, [], ◌∷◌, ◌++◌}
use Rattle.shm_base.specs.declared.paging.Span.{Span}
use Rattle.shm_base.specs.Access.{Place}
use Rattle.shm_base.specs.declared.paging.TheConstants.{PAGE_SIZE}

-- the places from byte `at` of a segment on
abbrev pub run : ℕ → ℕ → ℕ → Bool → List Place
run seg at zero w = []
run seg at (suc n) w = record { seg = seg; at = at; writable = w } ∷ run seg (at + 1) n w

-- the places that spans cover, in order; all are writable, or none
abbrev pub span_places : Bool → List Span → List Place
span_places w [] = []
span_places w (p ∷ ps) = run p.seg p.at p.len w ++ span_places w ps

-- the page of its segment in which a span lies
abbrev pub page_of : Span → ℕ
page_of s = s.at / PAGE_SIZE

-- a span is not empty and stays within a page
abbrev pub InPage : Span → Type 0
InPage s = (0 < s.len) × (s.at + s.len ≤ PAGE_SIZE * page_of s + PAGE_SIZE)
