-- Segments as lists of bytes, and the effects of loads and stores on them.
use Rattle.std.specs.Prelude.{ℕ, ◌≡◌, ◌≤◌, ◌+◌, ◌*◌, ◌/◌, ◌%◌, Bool, true, false, ◌==◌, not, if◌then◌else◌, List, [], ◌∷◌, ◌++◌, Option, Some, None, length, map, filter, take, drop, replicate, is_some, sum_by}
use Rattle.std.specs.List.{flat_map}
use Rattle.shm_base.specs.declared.paging.Span.{Span}
use Rattle.shm_base.specs.Spans.{InPage}
use Rattle.shm_base.specs.declared.paging.TheConstants.{PAGE_SIZE}
use Rattle.shm_base.specs.declared.bounds.TheConstants.{INDEXES}
use Rattle.shm_fault.specs.Ordered.{inserted}

-- a segment that the store holds
pub record Held : Type 0 where
  pub id : ℕ
  pub locked : Bool
  pub bytes : List ℕ

abbrev pub find_held : List Held → ℕ → Option Held
find_held [] id = None
find_held (g ∷ gs) id = if g.id == id then Some g else find_held gs id

abbrev pub held_bytes : Option Held → List ℕ
held_bytes None = []
held_bytes (Some g) = g.bytes

-- the bytes of a segment; none if it is not held
abbrev pub bytes_of : List Held → ℕ → List ℕ
bytes_of hs id = held_bytes (find_held hs id)

abbrev pub is_held : List Held → ℕ → Bool
is_held hs id = is_some (find_held hs id)

abbrev pub held_lock : Option Held → Bool
held_lock None = false
held_lock (Some g) = g.locked

-- the segment is held and locked
abbrev pub holds_locked : List Held → ℕ → Bool
holds_locked hs id = held_lock (find_held hs id)

abbrev pub held_pages : Held → ℕ
held_pages g = length g.bytes / PAGE_SIZE

-- the pages of all segments
abbrev pub pages_in_store : List Held → ℕ
pages_in_store hs = sum_by held_pages hs

abbrev pub pages_if_locked : Held → ℕ
pages_if_locked g = if g.locked then held_pages g else 0

-- the pages of the locked segments
abbrev pub locked_pages_in_store : List Held → ℕ
locked_pages_in_store hs = sum_by pages_if_locked hs

abbrev pub held_id : Held → ℕ
held_id g = g.id

-- the segments, with a new one of zeros
abbrev pub with_zeros : List Held → ℕ → ℕ → List Held
with_zeros hs id pages =
    inserted held_id (record { id = id; locked = false; bytes = replicate (PAGE_SIZE * pages) 0 }) hs

-- no segment that is held has this segment's index
abbrev pub IsIndexFree : List Held → ℕ → Type 0
IsIndexFree hs id = (other : ℕ) → other % INDEXES ≡ id % INDEXES → is_held hs other ≡ false

-- all segments except one
abbrev pub without : List Held → ℕ → List Held
without hs id = filter (λ (g : Held). not (g.id == id)) hs

abbrev pub lock_changed : ℕ → Bool → Held → Held
lock_changed id locked g = if g.id == id then record g { locked = locked } else g

-- the segments, with one segment's lock set or cleared
abbrev pub with_lock : List Held → ℕ → Bool → List Held
with_lock hs id locked = map (lock_changed id locked) hs

-- a span is within one page of a segment that is held
abbrev pub FitsPage : List Held → Span → Type 0
FitsPage hs p = (is_held hs p.seg ≡ true) × (p.at + p.len ≤ length (bytes_of hs p.seg)) × InPage p

abbrev pub span_bytes : List Held → Span → List ℕ
span_bytes hs p = take p.len (drop p.at (bytes_of hs p.seg))

-- the bytes of the spans, joined
abbrev pub read_from : List Held → List Span → List ℕ
read_from hs ps = flat_map (span_bytes hs) ps

-- the bytes, where others replace those from `at` on
abbrev pub paste : List ℕ → ℕ → List ℕ → List ℕ
paste bytes at new = take at bytes ++ new ++ drop (at + length new) bytes

abbrev pub pasted : ℕ → ℕ → List ℕ → Held → Held
pasted id at new g = if g.id == id then record g { bytes = paste g.bytes at new } else g

-- the segments, where new bytes replace those of the spans, in order
abbrev pub written : List Held → List Span → List ℕ → List Held
written hs [] new = hs
written hs (p ∷ ps) new = written (map (pasted p.seg p.at (take p.len new)) hs) ps (drop p.len new)
