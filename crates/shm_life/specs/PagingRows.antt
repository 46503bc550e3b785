-- A worked case: a load brings in a page, and a dirty page has to leave its frame for it.
use Rattle.std.specs.Prelude.{ℕ, ◌≡◌, Bool, true, false, List, [], ◌∷◌, Option, Some, None}
use Rattle.shm_base.specs.Access.{Place}
use Rattle.shm_base.specs.Spans.{run}
use Rattle.shm_base.specs.declared.paging.PageRef.{PageRef}
use Rattle.shm_base.specs.declared.paging.Slot.{Slot}
use Rattle.shm_frames.specs.Frame.{Frame}
use Rattle.shm_fault.specs.Acting.{left_by}
use Rattle.shm_fault.specs.Placing.{Places, access_counted, after_access}
use Rattle.shm_fault.specs.Segs.{SegRec}
use Rattle.shm_fault.specs.declared.page_tables.PageRec.{PageRec}
use Rattle.shm_life.specs.Paging.{page_spans, pages_of_bytes}

-- a page of segment 7, a slot of area 0, and where a page is
abbrev pub page : ℕ → PageRef
page n = record { seg = 7; page = n }

abbrev pub slot : ℕ → Option Slot
slot n = Some (record { area = 0; slot = n })

abbrev pub at : Option ℕ → Option Slot → PageRec
at frame its_slot = record { frame = frame; slot = its_slot }

abbrev pub frame : ℕ → Bool → Bool → Frame
frame n referenced dirty =
    record { owner = Some (page n); bytes = []; referenced = referenced; dirty = dirty; lent = false }

abbrev pub segment : List PageRec → List SegRec
segment pages = record { id = 7; locked = false; pages = pages } ∷ []

-- Two frames and three slots: page 0 is dirty in frame 0 and has no slot; page 1 is only in slot 0; page 2 is clean in frame 1
abbrev pub before : Places
before = record {
  segs = segment (at (Some 0) None ∷ at None (slot 0) ∷ at (Some 1) (slot 1) ∷ []);
  frames = frame 0 false true ∷ frame 2 true false ∷ [];
  hand = 0;
  slots = (Some (page 1) ∷ Some (page 2) ∷ None ∷ []) ∷ [];
}

-- a load of eight bytes of page 1
abbrev pub bytes : List Place
bytes = run 7 4100 8 false

-- page 0 was written to slot 2, page 1 was read into frame 0, and the hand passed that frame
abbrev pub after : Places
after = record {
  segs = segment (at None (slot 2) ∷ at (Some 0) (slot 0) ∷ at (Some 1) (slot 1) ∷ []);
  frames = frame 1 true false ∷ frame 2 true false ∷ [];
  hand = 1;
  slots = (Some (page 1) ∷ Some (page 2) ∷ Some (page 0) ∷ []) ∷ [];
}

-- the load is of one page; it counts one page read and one written; and the pages are then as drawn
pub record EvictionRow : Type 0 where
  pub pages : pages_of_bytes bytes ≡ page 1 ∷ []
  pub counts : access_counted (page_spans bytes) before ≡ record { reads = 1; writes = 1 }
  pub places : left_by false (page_spans bytes) (after_access (page_spans bytes) before) ≡ after
