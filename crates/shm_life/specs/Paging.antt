-- What calls do to pages: an access brings in the pages of its bytes, a swapoff moves those of an area, and no other call moves one.
use Rattle.std.specs.Prelude.{ℕ, ◌≡◌, ◌*◌, ◌/◌, Bool, true, false, if◌then◌else◌, List, [], ◌∷◌, map, length, Option, Some, None, All}
use Rattle.shm_base.specs.Access.{Place, loaded, same_bytes}
use Rattle.shm_base.specs.Calls.{ProcessCall}
use Rattle.shm_base.specs.History.{is_refusal}
use Rattle.shm_base.specs.State.{Entry}
use Rattle.shm_base.specs.Callers.{Caller}
use Rattle.shm_base.specs.declared.call.Call.TheVariants.{Load, Store, Xadd, Exchange, CompareExchange, Swapoff}
use Rattle.shm_base.specs.declared.call.Reply.{Reply}
use Rattle.shm_base.specs.declared.paging.PageRef.{PageRef}
use Rattle.shm_base.specs.declared.paging.Span.{Span}
use Rattle.shm_base.specs.declared.paging.TheConstants.{PAGE_SIZE}
use Rattle.shm_attach.specs.Spans.{wanted_in}
use Rattle.shm_fault.specs.Acting.{left_by}
use Rattle.shm_fault.specs.Counting.{IsUncounted, Transfers, raised}
use Rattle.shm_fault.specs.Goes.{CountsFailure}
use Rattle.shm_fault.specs.Placing.{access_counted, after_access, after_moves, places, without_area, Stops, StopsMoving}
use Rattle.shm_fault.specs.Store.{IsResident, StoreView, is_page}
use Rattle.shm_slots.specs.View.{area_at}
use Rattle.shm_segments.specs.Staying.{MovesNone}

-- THE PAGES OF BYTES

abbrev pub page_of_byte : Place → PageRef
page_of_byte p = record { seg = p.seg; page = p.at / PAGE_SIZE }

-- the pages of bytes that follow those of one page
abbrev pub pages_after : PageRef → List Place → List PageRef
pages_after last [] = []
pages_after last (p ∷ ps) =
    if is_page last p.seg (p.at / PAGE_SIZE)
    then pages_after last ps
    else page_of_byte p ∷ pages_after (page_of_byte p) ps

-- the pages of bytes, in their order; each page counts once while bytes of it follow each other
abbrev pub pages_of_bytes : List Place → List PageRef
pages_of_bytes [] = []
pages_of_bytes (p ∷ ps) = page_of_byte p ∷ pages_after (page_of_byte p) ps

abbrev pub whole_page : PageRef → Span
whole_page r = record { seg = r.seg; at = PAGE_SIZE * r.page; len = PAGE_SIZE; frame = None }

-- the same pages, as spans: each has all bytes of its page
abbrev pub page_spans : List Place → List Span
page_spans ps = map whole_page (pages_of_bytes ps)

-- WHAT A CALL DOES TO PAGES

-- it brings in the pages of some bytes, and may put bytes there; it takes an area away; or no page moves
pub data Paging : Type 0 where
  Touches : (puts : Bool) → (bytes : List Place) → Paging
  TakesAway : (area : ℕ) → Paging
  Rests : Paging

-- an access, unless an address denotes no byte
abbrev pub touching : Bool → Option (List Place) → Paging
touching puts None = Rests
touching puts (Some bytes) = Touches puts bytes

-- a compare and exchange puts bytes only if the old ones are the expected ones
abbrev pub comparing : List Entry → List ℕ → Option (List Place) → Paging
comparing table expected None = Rests
comparing table expected (Some bytes) = Touches (same_bytes (loaded table bytes) expected) bytes

abbrev pub paging_by : List Entry → ProcessCall → Caller → Paging
paging_by table (Load addr len) c = touching false (wanted_in false c.pieces addr len)
paging_by table (Store new addr) c = touching true (wanted_in true c.pieces addr (length new))
paging_by table (Xadd addr add) c = touching true (wanted_in true c.pieces addr 8)
paging_by table (Exchange new addr) c = touching true (wanted_in true c.pieces addr (length new))
paging_by table (CompareExchange expected new addr) c =
    comparing table expected (wanted_in true c.pieces addr (length new))
paging_by table (Swapoff area) c = TakesAway area
paging_by table _ c = Rests

-- what a call of a process does, if the process is live, to the pages of the segments in a table
abbrev pub paging_of : List Entry → ProcessCall → Option Caller → Paging
paging_of table call None = Rests
paging_of table call (Some c) = paging_by table call c

-- WHERE THE PAGES ARE AFTERWARDS

-- an access counted these reads and writes of pages, and a failure if a pager failed
pub record CountsPages (c : Transfers) (ps : List Span) (s t : StoreView) (ok : Bool) : Type 0 where
  pub read_in : t.ins ≡ raised s.ins c.reads
  pub written_out : t.outs ≡ raised s.outs c.writes
  pub failures : CountsFailure ok s t
  pub quiet : All (IsResident s) ps → t.swap ≡ s.swap

-- the pages came in, one after the other, and became dirty if bytes were put there
pub record ComeIn (puts : Bool) (ps : List Span) (s t : StoreView) : Type 0 where
  pub counts : CountsPages (access_counted ps (places s)) ps s t true
  pub places : places t ≡ left_by puts ps (after_access ps (places s))

-- a pager failed for one of the pages
pub record ComeInUpTo (ps : List Span) (s t : StoreView) : Type 0 where
  pub before : Transfers
  pub counts : CountsPages before ps s t false
  pub stopped : Stops ps (places s) (places t) before

-- the pages in the area's slots moved, in order of their slots, and the area has no slots any more
pub record MoveOff (area : ℕ) (s t : StoreView) : Type 0 where
  pub uncounted : IsUncounted s t
  pub failures : CountsFailure true s t
  pub places : places t ≡ without_area area (after_moves area (length (area_at s.swap area).pages) (places s))

-- a pager failed for one of those pages
pub record MoveOffUpTo (area : ℕ) (s t : StoreView) : Type 0 where
  pub uncounted : IsUncounted s t
  pub failures : CountsFailure false s t
  pub stopped : StopsMoving area (places s) (places t)

abbrev pub Did : Paging → StoreView → StoreView → Type 0
Did Rests s t = MovesNone s t
Did (Touches puts bytes) s t = ComeIn puts (page_spans bytes) s t
Did (TakesAway area) s t = MoveOff area s t

abbrev pub DidUpTo : Paging → StoreView → StoreView → Type 0
DidUpTo Rests s t = ⊥
DidUpTo (Touches puts bytes) s t = ComeInUpTo (page_spans bytes) s t
DidUpTo (TakesAway area) s t = MoveOffUpTo area s t

-- the pages after a call that was done, and after one in which a pager failed
pub record Pages (does : Paging) (failed : Bool) (reply : Reply) (s t : StoreView) : Type 0 where
  pub done : is_refusal reply ≡ false → Did does s t
  pub stopped : failed ≡ true → DidUpTo does s t
