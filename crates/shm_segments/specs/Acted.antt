-- The segments after an access of the bytes of spans.
use Rattle.std.specs.Prelude.{ℕ, ◌≡◌, false, List, Option, Result, OnOk, OnErr, is_some, All}
use Rattle.shm_base.specs.Access.{loaded}
use Rattle.shm_base.specs.Spans.{span_places}
use Rattle.shm_base.specs.declared.paging.Span.{Span}
use Rattle.shm_fault.specs.declared.touched.Touched.{Touched}
use Rattle.shm_fault.specs.declared.touched.PagerFailed.{PagerFailed}
use Rattle.shm_fault.specs.Access.{Accessed, touched_of}
use Rattle.shm_fault.specs.Counting.{counted}
use Rattle.shm_fault.specs.Acting.{bytes_in, left_by, place_after}
use Rattle.shm_fault.specs.Placing.{after_access, places, Stops}
use Rattle.shm_fault.specs.Segs.{HasPage}
use Rattle.shm_fault.specs.Store.{ref_of}
use Rattle.shm_segments.specs.Table.{table_with}
use Rattle.shm_segments.specs.View.{SegmentsView, KeepsMemory}

-- The old bytes were read, if the place is as long as they are, and these were put, if any. If a pager failed, no byte changed. Each
-- span's page exists; the pages came in one after another, up to the one for which a pager failed.
pub record Acted
    {A E : Type 0} (put : Option (List ℕ)) (ps : List Span) (before after : List ℕ) (s t : SegmentsView)
    (result : Result A E) (answer : Result Touched PagerFailed) : Type 0 where
  pub there : OnOk result (after ≡ place_after (bytes_in ps) (loaded s.table (span_places false ps)) before)
  pub kept : OnErr result (after ≡ before)
  pub written : OnOk result (t.table ≡ table_with s.table (span_places false ps) put)
  pub same : OnErr result (t.table ≡ s.table)
  pub access : Accessed ps s.memory t.memory answer
  pub keeps : KeepsMemory s.memory t.memory
  pub has : All (λ (p : Span). HasPage s.memory.segs (ref_of p)) ps
  pub stopped : OnErr result (Stops ps (places s.memory) (places t.memory) (counted (touched_of answer)))
  pub places : OnOk result (places t.memory ≡ left_by (is_some put) ps (after_access ps (places s.memory)))
