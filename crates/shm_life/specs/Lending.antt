-- Pages on loan to a machine's host. A loan is a load of the page by the host, and a page that comes back with bytes is a store.
use Rattle.std.specs.Prelude.{ℕ, ◌≡◌, ◌⊎◌, Bool, true, false, not, ◌&&◌, if◌then◌else◌, List, [], ◌∷◌, length, Option, Some, None, Result, Ok, Err, OnOk, OnErr, IfErr, is_some, is_none, option_map, All}
use Rattle.shm_base.specs.Access.{Place, loaded}
use Rattle.shm_base.specs.Spans.{span_places}
use Rattle.shm_base.specs.State.{Entry, Machine}
use Rattle.shm_base.specs.Callers.{Caller, caller_of}
use Rattle.shm_base.specs.declared.errno.Errno.{Errno}
use Rattle.shm_base.specs.declared.errno.Errno.TheVariants.{Esrch, Sigsegv}
use Rattle.shm_base.specs.declared.paging.PageRef.{PageRef}
use Rattle.shm_attach.specs.Spans.{wanted_in}
use Rattle.shm_slots.specs.Cause.{had_cause}
use Rattle.shm_frames.specs.Frame.{lent_of}
use Rattle.shm_fault.specs.Acting.{left_by}
use Rattle.shm_fault.specs.Goes.{frame_by}
use Rattle.shm_fault.specs.Loans.{LoansStay, info_of, is_barred, leaver_in, lent_at, loaned}
use Rattle.shm_fault.specs.Placing.{Places, access_counted, after_visit, places}
use Rattle.shm_fault.specs.Segs.{rec_by}
use Rattle.shm_fault.specs.Store.{StoreView}
use Rattle.shm_fault.specs.declared.loans.FrameInfo.{FrameInfo}
use Rattle.shm_segments.specs.Table.{live, page_there, table_with}
use Rattle.shm_segments.specs.View.{KeepsMemory}
use Rattle.shm_life.specs.MachineView.{MachineView}
use Rattle.shm_life.specs.Paging.{ComeIn, ComeInUpTo, CountsPages, page_of_byte, pages_of_bytes, whole_page}
use Rattle.shm_life.specs.declared.loans.LendRefusal.{LendRefusal}
use Rattle.shm_life.specs.declared.loans.LendRefusal.TheVariants as lending
use Rattle.shm_life.specs.declared.loans.ReturnRefusal.{ReturnRefusal}
use Rattle.shm_life.specs.declared.loans.ReturnRefusal.TheVariants as returning
use Rattle.shm_life.specs.declared.loans.Asked.{Asked}
use Rattle.shm_life.specs.declared.loans.Asked.TheVariants as asked
use Rattle.shm_life.specs.declared.loans.NotReady.{NotReady}
use Rattle.shm_life.specs.declared.loans.NotReady.TheVariants as ready

-- A PAGE IS LENT

-- the bytes of a page
unfoldable pub page_places : PageRef → List Place
page_places r = span_places false (whole_page r ∷ [])

-- a resident page is on loan, or not any more
abbrev pub on_loan : PageRef → Bool → Places → Places
on_loan r lent s = loaned (rec_by s.segs r).frame lent s

-- why a page can't be lent, if no pager fails
abbrev pub lend_refusal : MachineView → PageRef → Option LendRefusal
lend_refusal s r =
    if is_none (live s.flat.table r.seg) then Some lending.NoSegment
    else if not (page_there s.flat.table r.seg r.page) then Some lending.NoPage
    else if is_barred r None (places s.memory) then Some lending.Lent
    else None

-- the page came in, as by a load of the host, and is on loan; its bytes were copied out
pub record IsLent (r : PageRef) (s : MachineView) (out : List ℕ) (t : MachineView) : Type 0 where
  pub flat : t.flat ≡ s.flat
  pub bytes : out ≡ loaded s.flat.table (page_places r)
  pub counts :
      let page = whole_page r ∷ [] in
      CountsPages (access_counted page (places s.memory)) page s.memory t.memory true
  pub placed : places t.memory ≡ on_loan r true (after_visit r None (places s.memory))
  pub keeps : KeepsMemory s.memory t.memory
  pub stay : LoansStay (places s.memory) (places t.memory)

-- a pager failed when the page was to come in
pub record FailsToCome (r : PageRef) (s t : MachineView) : Type 0 where
  pub flat : t.flat ≡ s.flat
  pub stopped : ComeInUpTo (whole_page r ∷ []) s.memory t.memory
  pub cause : had_cause s.memory.swap t.memory.swap ≡ true
  pub keeps : KeepsMemory s.memory t.memory
  pub stay : LoansStay (places s.memory) (places t.memory)

abbrev pub LendRefused : PageRef → MachineView → LendRefusal → MachineView → Type 0
LendRefused r s lending.Sigbus t = (lend_refusal s r ≡ None) × FailsToCome r s t
LendRefused r s lending.NoSegment t = (lend_refusal s r ≡ Some lending.NoSegment) × (t ≡ s)
LendRefused r s lending.NoPage t = (lend_refusal s r ≡ Some lending.NoPage) × (t ≡ s)
LendRefused r s lending.Lent t = (lend_refusal s r ≡ Some lending.Lent) × (t ≡ s)

-- a page was lent, or why it was not; then the place for its bytes is as it was
pub record Lends
    (r : PageRef) (s : MachineView) (before after : List ℕ) (result : Result (Unit {0}) LendRefusal) (t : MachineView)
    : Type 0 where
  pub ok : OnOk result ((lend_refusal s r ≡ None) × IsLent r s after t)
  pub err : IfErr result (λ e. LendRefused r s e t)
  pub kept : OnErr result (after ≡ before)

-- A PAGE COMES BACK

-- why a page can't come back
abbrev pub return_refusal : MachineView → PageRef → Option ReturnRefusal
return_refusal s r =
    if is_none (live s.flat.table r.seg) then Some returning.NoSegment
    else if not (page_there s.flat.table r.seg r.page && lent_at (places s.memory) (frame_by s.memory r))
    then Some returning.NotLent
    else None

-- Bytes were stored in a resident page, and its frame is dirty; or none were. No page moved, and no referenced bit changed.
pub record PutsBytes (r : PageRef) (bytes : Option (List ℕ)) (s t : MachineView) : Type 0 where
  pub flat : t.flat ≡ record s.flat { table = table_with s.flat.table (page_places r) bytes }
  pub placed : places t.memory ≡ left_by (is_some bytes) (whole_page r ∷ []) (places s.memory)
  pub rest : t.memory ≡ record s.memory { frames = t.memory.frames }
  pub count : length t.memory.frames ≡ length s.memory.frames
  pub keeps : KeepsMemory s.memory t.memory

-- The page is not on loan any more. If it came with bytes, these were stored, and its frame is dirty. No page moved, and no
-- referenced bit changed.
pub record IsReturned (r : PageRef) (bytes : Option (List ℕ)) (s t : MachineView) : Type 0 where
  pub flat : t.flat ≡ record s.flat { table = table_with s.flat.table (page_places r) bytes }
  pub placed : places t.memory ≡ on_loan r false (left_by (is_some bytes) (whole_page r ∷ []) (places s.memory))
  pub rest : t.memory ≡ record s.memory { frames = t.memory.frames }
  pub keeps : KeepsMemory s.memory t.memory

pub record Returns
    (r : PageRef) (bytes : Option (List ℕ)) (s : MachineView) (result : Result (Unit {0}) ReturnRefusal) (t : MachineView)
    : Type 0 where
  pub ok : OnOk result ((return_refusal s r ≡ None) × IsReturned r bytes s t)
  pub err : IfErr result (λ e. (return_refusal s r ≡ Some e) × (t ≡ s))

-- WHAT A HOST LOOKS AT

-- the frame whose page would leave it if a page came in now; none if a frame is free
abbrev pub leaver_seen : StoreView → Option FrameInfo
leaver_seen s = option_map (info_of s) (leaver_in None (places s))

-- the page of an address, and whether the process may write there
abbrev pub page_shown : Bool → Option (List Place) → Result (PageRef × Bool) Errno
page_shown writable None = Err Sigsegv
page_shown writable (Some []) = Err Sigsegv
page_shown writable (Some (p ∷ ps)) = Ok (page_of_byte p, writable)

abbrev pub page_seen : Option Caller → ℕ → Result (PageRef × Bool) Errno
page_seen None addr = Err Esrch
page_seen (Some c) addr = page_shown (is_some (wanted_in true c.pieces addr 1)) (wanted_in false c.pieces addr 1)

-- ACCESSES WHILE PAGES ARE ON LOAN

abbrev pub pages_wanted : Option (List Place) → List PageRef
pages_wanted None = []
pages_wanted (Some bytes) = pages_of_bytes bytes

abbrev pub pages_asked_by : Bool → ℕ → ℕ → Option Caller → List PageRef
pages_asked_by puts addr len None = []
pages_asked_by puts addr len (Some c) = pages_wanted (wanted_in puts c.pieces addr len)

-- the pages of an access of a process, one or two; none if the access is refused
abbrev pub pages_asked : Machine → ℕ → ℕ → ℕ → Bool → List PageRef
pages_asked m pid addr len puts = pages_asked_by puts addr len (caller_of m pid)

-- the pages that were found
abbrev pub listed : Asked → List PageRef
listed asked.Nothing = []
listed (asked.One r) = r ∷ []
listed (asked.Two r q) = r ∷ q ∷ []

-- the pages exist
abbrev pub ArePages : List Entry → List PageRef → Type 0
ArePages table rs = All (λ (r : PageRef). page_there table r.seg r.page ≡ true) rs

-- no visit of an access of these pages is barred
abbrev pub is_clear : List PageRef → Places → Bool
is_clear [] s = true
is_clear (r ∷ []) s = not (is_barred r None s)
is_clear (r ∷ q ∷ rs) s =
    let first = after_visit r None s in
    not (is_barred r None s) && not (is_barred q (rec_by first.segs r).frame first)

-- nothing is on loan, or an access of these pages touches nothing that is, and sends nothing out that is
abbrev pub IsClear : List PageRef → StoreView → Type 0
IsClear rs s = (lent_of s.frames ≡ 0) ⊎ (is_clear rs (places s) ≡ true)

-- an access of these pages, if it is clear, leaves each page on loan in its frame
abbrev pub KeepsLoans : List PageRef → StoreView → StoreView → Type 0
KeepsLoans rs s t = IsClear rs s → LoansStay (places s) (places t)

-- the first of two pages came in, as by a load of the host, so that the access moves nothing for it; or nothing changed
abbrev pub Fetched : List PageRef → StoreView → StoreView → Type 0
Fetched [] s t = t ≡ s
Fetched (r ∷ []) s t = t ≡ s
Fetched (r ∷ q ∷ rs) s t = (t ≡ s) ⊎ ComeIn false (whole_page r ∷ []) s t

abbrev pub FirstFails : List PageRef → MachineView → MachineView → Type 0
FirstFails [] s t = ⊥
FirstFails (r ∷ rs) s t = FailsToCome r s t

-- a page on loan blocks the access, or a pager failed for the first of its pages
abbrev pub StandsInTheWay : List PageRef → NotReady → MachineView → MachineView → Type 0
StandsInTheWay rs ready.Lent s t = (is_clear rs (places t.memory) ≡ false) × Fetched rs s.memory t.memory
StandsInTheWay rs ready.Sigbus s t = FirstFails rs s t

-- an access of these pages may be made now, or why not
pub record MakesReady
    (rs : List PageRef) (s : MachineView) (result : Result (Unit {0}) NotReady) (t : MachineView) : Type 0 where
  pub flat : t.flat ≡ s.flat
  pub keeps : KeepsMemory s.memory t.memory
  pub stay : LoansStay (places s.memory) (places t.memory)
  pub ok : OnOk result (IsClear rs t.memory × Fetched rs s.memory t.memory)
  pub err : IfErr result (λ e. StandsInTheWay rs e s t)
