-- Spans of bytes of segments, as the places that an access uses.
use Rattle.std.specs.Prelude.{ℕ, ◌≡◌, ◌+◌, ◌<◌, ◌≤◌, ◌^◌, Bool, true, false, List, length, Option, Some, option_map, map, All, sum_by}
use Rattle.shm_base.specs.State.{Piece, Runner}
use Rattle.shm_base.specs.Access.{Place, places, writable_places}
use Rattle.shm_base.specs.Processes.{pieces_of_caller}
use Rattle.shm_base.specs.Callers.{caller_from}
use Rattle.shm_base.specs.Spans.{run, span_places, InPage, page_of}
use Rattle.shm_base.specs.declared.paging.Span.{Span}
use Rattle.slab.specs.Slab.{Slab}
use Rattle.shm_attach.specs.Table.{AllTrue, TableView}
use Rattle.shm_attach.specs.declared.spans.Parts.{Parts}
use Rattle.shm_attach.specs.declared.spans.Parts.TheVariants.{One, Two}

-- the spans of an access, in address order
abbrev pub span_list : Parts → List Span
span_list (One spans) = spans
span_list (Two spans) = spans

-- a place, without whether it is writable
abbrev pub unmarked : Place → Place
unmarked p = record p { writable = false }

-- the places that an access uses; none if it fails
abbrev pub asked : Bool → List Piece → ℕ → ℕ → Option (List Place)
asked true ps addr n = writable_places ps addr n
asked false ps addr n = places ps addr n

-- the same places without whether they are writable
abbrev pub wanted_in : Bool → List Piece → ℕ → ℕ → Option (List Place)
wanted_in write ps addr len = option_map (map unmarked) (asked write ps addr len)

-- the pieces of a live process; none for any other
abbrev pub pieces_by : ℕ → List Runner → List Piece
pieces_by pid rs = pieces_of_caller (caller_from 0 pid rs)

-- the places that a process's access uses
abbrev pub wanted : Bool → ℕ → ℕ → ℕ → List Runner → Option (List Place)
wanted write pid addr len rs = wanted_in write (pieces_by pid rs) addr len

-- a test passes for every page of every piece
abbrev pub PassPages : (ℕ → ℕ → Bool) → List Piece → Type 0
PassPages test ps = All (λ (p : Piece). (j : ℕ) → j < p.pages → test p.seg (p.first_page + j) ≡ true) ps

-- the spans of an access by a process with these pieces, at most two: each is within one page, which the pieces have, and
-- together they have the bytes of the access
pub record AreSpans (write : Bool) (ps : List Piece) (addr len : ℕ) (s : List Span) : Type 0 where
  pub places : wanted_in write ps addr len ≡ Some (span_places false s)
  pub few : length s ≤ 2
  pub within : All InPage s
  pub sum : sum_by (λ (p : Span). p.len) s ≡ len
  pub pages : (test : ℕ → ℕ → Bool) → PassPages test ps → All (λ (p : Span). test p.seg (page_of p) ≡ true) s

-- the span of an access within one page, with the frame of the page in its table
pub record IsSpan (write : Bool) (ps : List Piece) (addr len : ℕ) (t : Slab TableView) (s : Span) : Type 0 where
  pub places : wanted_in write ps addr len ≡ Some (run s.seg s.at s.len false)
  pub within : InPage s
  pub size : s.len ≡ len
  pub low : addr < 2 ^ 48
  pub pages : (test : ℕ → ℕ → Bool) → PassPages test ps → test s.seg (page_of s) ≡ true
  pub frames : (at : ℕ → ℕ → Option ℕ) → AllTrue at t → s.frame ≡ at s.seg (page_of s)

-- the piece's segment passes one test, and each of its pages another
abbrev pub HasPages : (ℕ → Bool) → (ℕ → ℕ → Bool) → Piece → Type 0
HasPages seg page p = (seg p.seg ≡ true) × ((j : ℕ) → j < p.pages → page p.seg (p.first_page + j) ≡ true)
