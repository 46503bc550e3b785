-- What an access requires, and what it changes other than the bytes that it reads or writes.
use Rattle.std.specs.Prelude.{ℕ, ◌≡◌, ◌≤◌, ◌+◌, ◌&&◌, Bool, true, false, List, [], ◌∷◌, Option, Some, Result, Ok, Err, length, is_ok, IfOk, OnOk, OnErr, IsSome, All, ⊤}
use Rattle.shm_base.specs.declared.paging.PageRef.{PageRef}
use Rattle.shm_base.specs.declared.paging.Span.{Span}
use Rattle.shm_slots.specs.View.{sizes}
use Rattle.shm_slots.specs.Cause.{GoesOn, had_cause}
use Rattle.shm_fault.specs.declared.access.InFrames.{InFrames}
use Rattle.shm_fault.specs.declared.touched.Touched.{Touched}
use Rattle.shm_fault.specs.declared.touched.PagerFailed.{PagerFailed}
use Rattle.shm_fault.specs.Segs.{rec_by}
use Rattle.shm_fault.specs.Store.{StoreView, frame_of, page_of, ref_of, is_swapped, IsResident, IsReferenced}
use Rattle.shm_fault.specs.Steps.{MovesLead, LockedPagesStay}
use Rattle.shm_fault.specs.Goes.{Goes, IsSeenIn, KeepsLocked, Visits, MovesOn, CountsFailure, frame_by, referenced_at}
use Rattle.shm_fault.specs.Counting.{counted, raised, one_if, CountsOn}
use Rattle.shm_fault.specs.Placing.{access_counted, after_access, after_visit, places, visit_counted, Stops, StopsAt}
use Rattle.shm_fault.specs.Sound.{IsStoreSound}

-- each span names the frame of its page
abbrev pub NameFrames : StoreView → List Span → Type 0
NameFrames s ps = All (λ (p : Span). p.frame ≡ frame_of s p.seg (page_of p)) ps

-- the same for one span, by its page
abbrev pub NamesFrame : StoreView → Span → Type 0
NamesFrame s p = p.frame ≡ frame_by s (ref_of p)

-- nothing was counted or named yet
abbrev pub IsUntouched : Touched → Type 0
IsUntouched u = (u.moved.items ≡ []) × (u.ins ≡ 0) × (u.outs ≡ 0)

-- the result of a visit to a page; if the page was resident, its frame was known
pub record Visited
    {E : Type 0} (r : PageRef) (pinned known : Option ℕ) (s t : StoreView) (u v : Touched)
    (result : Result ℕ E) : Type 0 where
  pub here : IfOk result (IsSeenIn t r)
  pub visits : Visits r pinned s t
  pub moves : MovesOn u.moved.items v.moved.items s t
  pub few : length v.moved.items ≤ length u.moved.items + 2
  pub ins : v.ins ≡ u.ins + one_if (is_ok result && is_swapped (rec_by s.segs r))
  pub outs : v.outs ≤ u.outs + 1
  pub transfers : OnOk result (counted v ≡ visit_counted r pinned (places s) (counted u))
  pub counts : CountsOn u v s t
  pub quiet : IsSome known → (is_ok result ≡ true) × (v ≡ u) × (t.segs ≡ s.segs) × (t.swap ≡ s.swap)
  pub placed : OnOk result (places t ≡ after_visit r pinned (places s))
  pub stopped : OnErr result (StopsAt r pinned (places s) (places t) (counted u) (counted v))
  pub failures : CountsFailure (is_ok result) s t

-- the page of a span is in this frame, whose referenced bit is set
pub record IsIn (t : StoreView) (p : Span) (f : ℕ) : Type 0 where
  pub at : frame_by t (ref_of p) ≡ Some f
  pub bit : referenced_at t f ≡ true

-- the pages of one or two spans are in these frames
abbrev pub AreIn : StoreView → List Span → InFrames → Type 0
AreIn t [] here = ⊤
AreIn t (p ∷ []) here = IsIn t p here.first
AreIn t (p ∷ q ∷ ps) here = IsIn t p here.first × IsIn t q here.second

-- The effects of paging for spans, whether it succeeds or not. The store's counts rose by the caller's. On success the places
-- determine those; `Stops` says what was counted before a pager failed.
pub record Paged (ps : List Span) (s t : StoreView) (u : Touched) (ok : Bool) : Type 0 where
  pub moves : MovesLead u.moved.items s t
  pub few : length u.moved.items ≤ 4
  pub read_in : t.ins ≡ raised s.ins u.ins
  pub written_out : t.outs ≡ raised s.outs u.outs
  pub transfers : ok ≡ true → counted u ≡ access_counted ps (places s)
  pub quiet : All (IsResident s) ps → (ok ≡ true) × (t.swap ≡ s.swap) × (u.ins ≡ 0) × (u.outs ≡ 0)
  pub cause : ok ≡ false → had_cause s.swap t.swap ≡ true
  pub failures : CountsFailure ok s t

-- the pages of spans were brought in, or one of them was not
pub record Brings
    {E : Type 0} (ps : List Span) (s t : StoreView) (u : Touched) (result : Result InFrames E) : Type 0 where
  pub here : IfOk result (AreIn t ps)
  pub goes : Goes s t
  pub kept : KeepsLocked s t
  pub paged : Paged ps s t u (is_ok result)
  pub placed : OnOk result (places t ≡ after_access ps (places s))
  pub stopped : OnErr result (Stops ps (places s) (places t) (counted u))

-- the counts and moves of an access, also of one that failed
abbrev pub touched_of : Result Touched PagerFailed → Touched
touched_of (Ok u) = u
touched_of (Err e) = e.touched

-- the answer of an access that wrote its counts and moves to `u`
abbrev pub answer_of : {A E : Type 0} → Touched → Result A E → Result Touched PagerFailed
answer_of u (Ok a) = Ok u
answer_of u (Err e) = Err (record { touched = u })

-- the effects of an access, other than on bytes
pub record Accessed (ps : List Span) (s t : StoreView) (result : Result Touched PagerFailed) : Type 0 where
  pub paged : Paged ps s t (touched_of result) (is_ok result)
  pub resident : OnOk result (All (IsReferenced t) ps)
  pub kept : LockedPagesStay s t
  pub counts : GoesOn s.swap t.swap
  pub same_sizes : sizes t.swap ≡ sizes s.swap
  pub size : length t.frames ≡ length s.frames
  pub sound : IsStoreSound t
