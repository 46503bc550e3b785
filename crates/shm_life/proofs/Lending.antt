-- Pages on loan: what a host's load of a page leaves, and what an access leaves while pages are on loan.
use Rattle.shm_life.proofs.Names.{◌≡◌, ◌<◌, ◌≤◌, ◌*◌, ◌+◌, ◌/◌, ◌∙◌, ◌∷◌, [], ℕ, Bool, true, false, not, Some, None, List, length, if◌then◌else◌, refl, sym, ap, arith, subst, IsAccess, IsCaller, Machine, pieces_at, wanted_in, All-nil, Bounds, Runner, Translation, IsWell, inl, inr, loaded, ◌⊎◌, OnOk, Entry, Segment, Span, PageRef, InPage, page_of, span_places, StoreView, SpanFits, page_there, live, pages_held, Held, find_held, KeepsMemory, memory-trans, Place, nat_tests, HostRange, true≢false, nat_lt, cond, get_or, suc, zero, sum_by-cons, All-cons, Errno, run, Caller, Called, NameFrames, Act, Nothing, frame_by, FitsPage, Transfers, no_transfers, HasPage, rec_by, table_with, IsTableExact, as_held, again, visited, Does, DoesAt, DoesBy, LeavesOrFails, MachineView, ComeIn, ComeInUpTo, CountsPages, page_spans, pages_of_bytes, whole_page, ◌&&◌, ◌++◌, count_by, nat_eq, slice_index_or, Option, Result, Ok, Err, IsSome, is_err, is_some, map, option_map}
use Rattle.shm_frames.specs.Frame.{Frame, frame_at, is_lent, lent_of, no_frame}
use Rattle.shm_fault.proofs.Lending.{loans-set, stay-refl, stay-same, stay-stops, stay-trans, stay-visit}
use Rattle.shm_fault.proofs.Placed.{bare-at}
use Rattle.shm_fault.proofs.Slots.{set-cases}
use Rattle.shm_fault.proofs.Spans.{fits-has}
use Rattle.shm_fault.specs.Acting.{PutAt, left_by, size_of, writes}
use Rattle.shm_fault.specs.Loans.{LoansStay, SetsLent, is_barred, lent_at, loaned, with_loan}
use Rattle.shm_fault.specs.Placing.{Places, Stops, StopsAt, after_access, after_visit, dirtied, places, visit_counted, visited_in, with_dirty}
use Rattle.shm_fault.specs.Store.{frame_of, held, is_page, ref_of}
use Rattle.shm_slots.specs.Cause.{total}
use Rattle.shm_life.specs.declared.loans.NotReady.TheVariants as ready
use Rattle.shm_life.specs.Lending.{ArePages, FailsToCome, KeepsLoans, MakesReady, is_clear, pages_asked, pages_asked_by, pages_wanted, IsLent, IsReturned, PutsBytes, lend_refusal, on_loan, page_places, return_refusal}
use Rattle.shm_life.proofs.Accessing.{filled, noted, on-ok, view_with}
use Rattle.shm_life.proofs.Settled.{still-well}
use Rattle.shm_life.proofs.Running.{true_still}
use Rattle.shm_life.proofs.Touching.{span-first, span-next, whole-page, whole-ref}

lt-zero : (n : ℕ) → nat_lt n 0 ≡ false
lt-zero n = grind (arith, nat_tests)

-- A PAGE AS A SPAN

abbrev pub span_at : PageRef → Option ℕ → Span
span_at r f = record (whole_page r) { frame = f }

pub in-page : (r : PageRef) (f : Option ℕ) → InPage (span_at r f)
in-page r f = (omega arith, omega (arith, whole-page r.page))

pub page-fits : (table : List Entry) (r : PageRef) (f : Option ℕ) → page_there table r.seg r.page ≡ true → SpanFits table (span_at r f)
page-fits table r f there = (in-page r f, rw (whole-page r.page) there)

one-span : (p : Span) → InPage p → page_spans (span_places false (p ∷ [])) ≡ whole_page (ref_of p) ∷ []
one-span p fit = ap (map whole_page) (span-first p.len p [] refl fit)

pub one-page : (r : PageRef) → page_spans (page_places r) ≡ whole_page r ∷ []
unfolding page_places
one-page r = one-span (whole_page r) (in-page r None) ∙ ap (λ q. whole_page q ∷ []) (whole-ref r)

-- the page exists in the store too
fits-held : (hs : List Held) (r : PageRef) (o : Option Segment) → find_held hs r.seg ≡ option_map (as_held r.seg) o → nat_lt r.page (pages_held o) ≡ true → FitsPage hs (whole_page r)
fits-held hs r None shows there = absurd (true≢false (sym there ∙ lt-zero r.page))
fits-held hs r (Some x) shows there =
    let less : r.page < length x.bytes / 4096 = grind (arith, nat_tests, there) in
    (ap is_some shows, rw shows (omega (arith, less)), in-page r None)

pub has-page : (table : List Entry) (m : StoreView) (r : PageRef) → IsTableExact table m → page_there table r.seg r.page ≡ true → HasPage m.segs r
has-page table m r exact there =
    let fits : FitsPage (held m) (whole_page r) = fits-held (held m) r (live table r.seg) (exact.shows r.seg) there in
    subst (HasPage m.segs) (whole-ref r) (fits-has m exact.sound (whole_page r) fits)

has-there : (s : StoreView) (r : PageRef) → HasPage s.segs r → HasPage (places s).segs r
unfolding places
has-there s r has = has

-- WHERE PAGES ARE AFTER A LOAD OF THE HOST

pub came-one : (r : PageRef) (s t : StoreView) → ComeIn false (whole_page r ∷ []) s t → places t ≡ after_visit r None (places s)
unfolding after_access
came-one r s t came = came.places ∙ ap (λ q. after_visit q None (places s)) (whole-ref r)

stopped-one : (r : PageRef) (s t : StoreView) (to : ComeInUpTo (whole_page r ∷ []) s t) → StopsAt r None (places s) (places t) no_transfers to.before
unfolding Stops
stopped-one r s t to = subst (λ q. StopsAt q None (places s) (places t) no_transfers to.before) (whole-ref r) to.stopped

pub frame-after : (r : PageRef) (m : StoreView) (s : Places) → places m ≡ s → frame_by m r ≡ (rec_by s.segs r).frame
unfolding places
frame-after r m s is = ap (λ (x : Places). (rec_by x.segs r).frame) is

pub lent-places : (r : PageRef) (lent : Bool) (s t : StoreView) → SetsLent r lent s t → places t ≡ on_loan r lent (places s)
unfolding places
lent-places r lent s t set = set.placed

-- a mark of a loan takes no page out of its frame
stay-marked : (s : Places) (f : ℕ) → LoansStay s (with_loan f true s)
stay-marked s f g r owned lent = elim (set-cases s.frames f (record (frame_at s.frames f) { lent = true }) no_frame g) [
  | inl here ↦ rw (here.1) (rw (← here.0) owned, refl)
  | inr kept ↦ rw kept (owned, lent)
]

stay-loaned : (s : Places) (o : Option ℕ) → LoansStay s (loaned o true s)
stay-loaned s None = stay-refl s
stay-loaned s (Some f) = stay-marked s f

-- only the marks of frames changed
counts-marked : (c : Transfers) (ps : List Span) (s m t : StoreView) → t ≡ record m { frames = t.frames } → CountsPages c ps s m true → CountsPages c ps s t true
counts-marked c ps s m t rest x = record {
  read_in = ap (λ (v : StoreView). v.ins) rest ∙ x.read_in;
  written_out = ap (λ (v : StoreView). v.outs) rest ∙ x.written_out;
  failures = ap (λ (v : StoreView). total v.swap) rest ∙ x.failures;
  quiet = λ all. ap (λ (v : StoreView). v.swap) rest ∙ x.quiet all;
}

stay-came : (r : PageRef) (s t : StoreView) → is_barred r None (places s) ≡ false → ComeIn false (whole_page r ∷ []) s t → LoansStay (places s) (places t)
stay-came r s t free came = rw (came-one r s t came) (stay-visit r None (places s) free)

abbrev pub granted : Result (Unit {0}) Errno
granted = Ok tt

-- the page came in, and was marked
pub lent-now : (r : PageRef) (s m t : MachineView) (out : List ℕ) → is_barred r None (places s.memory) ≡ false → LeavesOrFails s.flat.table false (whole_page r ∷ []) s granted m
    → out ≡ loaded s.flat.table (page_places r) → SetsLent r true m.memory t.memory → KeepsMemory m.memory t.memory → t.flat ≡ m.flat → IsLent r s out t
lent-now r s m t out free l bytes set keeps flat =
    let came = came-one r s.memory m.memory l.came in
    let placed = lent-places r true m.memory t.memory set in
    record {
      flat = flat ∙ l.written;
      bytes = bytes;
      counts = counts-marked _ (whole_page r ∷ []) s.memory m.memory t.memory set.rest l.came.counts;
      placed = placed ∙ ap (on_loan r true) came;
      keeps = memory-trans s.memory m.memory t.memory l.keeps keeps;
      stay = stay-trans (places s.memory) (places m.memory) (places t.memory) (stay-came r s.memory m.memory free l.came) (rw placed (stay-loaned (places m.memory) (rec_by (places m.memory).segs r).frame));
    }

pub fails-to-come : (r : PageRef) (s t : MachineView) (e : Errno) → is_barred r None (places s.memory) ≡ false → LeavesOrFails {T = Unit {0}} s.flat.table false (whole_page r ∷ []) s (Err e) t → FailsToCome r s t
fails-to-come r s t e free l = record {
  flat = l.same;
  stopped = l.stopped;
  cause = l.err.cause;
  keeps = l.keeps;
  stay = stay-stops r None (places s.memory) (places t.memory) no_transfers l.stopped.before free (stopped-one r s.memory t.memory l.stopped);
}

-- WHAT IS ON LOAN

pub lent-there : (m : StoreView) (r : PageRef) (f : ℕ) → frame_by m r ≡ Some f → (frame_at m.frames f).lent ≡ lent_at (places m) (frame_by m r)
unfolding places
lent-there m r f at = rw at (ap (λ (x : Frame). x.lent) (sym (bare-at m.frames f)))

pub lent-nowhere : (m : StoreView) (r : PageRef) → frame_by m r ≡ None → false ≡ lent_at (places m) (frame_by m r)
lent-nowhere m r away = rw away refl

-- A LOAD OF THE HOST, BY ITS SPAN

at-page : (at page : ℕ) → at ≡ page → at * 4096 ≡ 4096 * page
at-page at page is = omega (arith, is)

pub span-named : (r : PageRef) (at : ℕ) (f g : Option ℕ) → at ≡ r.page → f ≡ g → ◌≡◌ {A = Span} (record { seg = r.seg; at = at * 4096; len = 4096; frame = f }) (span_at r g)
span-named r at f g is same = rw (at-page at r.page is, same) refl

named : (m : StoreView) (r : PageRef) → frame_by m r ≡ frame_of m r.seg (page_of (whole_page r))
unfolding frame_of
named m r = rw (whole-page r.page) refl

pub names-frame : (m : StoreView) (r : PageRef) (p : Span) → p ≡ span_at r (frame_by m r) → NameFrames m (p ∷ [])
names-frame m r p is =
    let names : Span → Type 0 = λ q. q.frame ≡ frame_of m q.seg (page_of q) in
    All-cons names p [] (rw is (named m r)) (All-nil names)

span-places : (r : PageRef) (f : Option ℕ) (p : Span) → p ≡ span_at r f → span_places false (p ∷ []) ≡ page_places r
unfolding page_places
span-places r f p is = ap (λ (q : Span). span_places false (record q { frame = None } ∷ [])) is

pub fetched : (r : PageRef) (f : Option ℕ) (p : Span) (before after : List ℕ) (s t : MachineView) (result : Result (Unit {0}) Errno) → p ≡ span_at r f → Does Nothing (span_places false (p ∷ [])) before after s result t
    → LeavesOrFails s.flat.table false (whole_page r ∷ []) s result t
fetched r f p before after s t result is does = subst (λ ps. LeavesOrFails s.flat.table false ps s result t) (ap page_spans (span-places r f p is) ∙ one-page r) does.leaves

pub fetched-bytes : (r : PageRef) (f : Option ℕ) (p : Span) (before after : List ℕ) (s t : MachineView) (result : Result (Unit {0}) Errno) → p ≡ span_at r f → Does Nothing (span_places false (p ∷ [])) before after s result t
    → OnOk result (after ≡ loaded s.flat.table (page_places r))
fetched-bytes r f p before after s t result is does =
    on-ok _ _ result (λ e. e ∙ filled (length before) _ before refl ∙ ap (loaded s.flat.table) (span-places r f p is)) does.there

pub fetched-here : (r : PageRef) (s t : MachineView) (result : Result (Unit {0}) Errno) → HasPage s.memory.segs r → LeavesOrFails s.flat.table false (whole_page r ∷ []) s result t → OnOk result (IsSome (frame_by t.memory r))
fetched-here r s t (Err e) has l = tt
fetched-here r s t (Ok a) has l = ap is_some (frame-after r t.memory (after_visit r None (places s.memory)) (came-one r s.memory t.memory l.came)) ∙ visited r (places s.memory) (has-there s.memory r has)

-- A PAGE IS LENT

-- only marks of frames changed
pub same-flat : (limits : Bounds) (hosts : List HostRange) (rs : List Runner) (t u : List Entry) (m n : StoreView) → u ≡ t → n ≡ record m { frames = n.frames } → (view_with limits hosts u rs n).flat ≡ (view_with limits hosts t rs m).flat
same-flat limits hosts rs t u m n same rest =
    ap (λ (l : List Entry). (view_with limits hosts l rs n).flat) same ∙ ap (λ (v : StoreView). (view_with limits hosts t rs v).flat) rest

pub lent-view : (r : PageRef) (s : MachineView) (limits : Bounds) (hosts : List HostRange) (rs : List Runner) (t u : List Entry) (m n : StoreView) (out : List ℕ) → is_barred r None (places s.memory) ≡ false
    → LeavesOrFails s.flat.table false (whole_page r ∷ []) s granted (view_with limits hosts t rs m) → out ≡ loaded s.flat.table (page_places r) → SetsLent r true m n → KeepsMemory m n → u ≡ t
    → IsLent r s out (view_with limits hosts u rs n)
lent-view r s limits hosts rs t u m n out free l bytes set keeps same = lent-now r s (view_with limits hosts t rs m) (view_with limits hosts u rs n) out free l bytes set keeps (same-flat limits hosts rs t u m n same set.rest)

-- what a result that is no error, or one, is known of
pub went : (table : List Entry) (ps : List Span) (s t : MachineView) (r : Result (Unit {0}) Errno) → is_err r ≡ false → LeavesOrFails table false ps s r t → LeavesOrFails table false ps s granted t
went table ps s t (Ok a) none l = record { written = l.written; same = tt; keeps = l.keeps; err = tt; came = l.came; stopped = tt }
went table ps s t (Err e) none l = absurd (true≢false none)

pub failed : (r : PageRef) (s t : MachineView) (result : Result (Unit {0}) Errno) → is_err result ≡ true → is_barred r None (places s.memory) ≡ false → LeavesOrFails s.flat.table false (whole_page r ∷ []) s result t → FailsToCome r s t
failed r s t (Ok a) is free l = absurd (true≢false (sym is))
failed r s t (Err e) is free l = fails-to-come r s t e free l

pub lendable : (s : MachineView) (r : PageRef) → lend_refusal s r ≡ None → (page_there s.flat.table r.seg r.page ≡ true) × (is_barred r None (places s.memory) ≡ false)
lendable s r none = grind (arith, nat_tests, none)

-- marks of frames leave all well
still-marked : (m n : StoreView) → n ≡ record m { frames = n.frames } → (s page : ℕ) → frame_of n s page ≡ frame_of m s page
unfolding frame_of
still-marked m n rest s page = ap (λ (v : StoreView). (rec_by v.segs (record { seg = s; page = page })).frame) rest

pub loan-well : (limits : Bounds) (t u : List Entry) (rs : List Runner) (ts : List Translation) (m n : StoreView) → IsWell limits t rs ts m → u ≡ t → n ≡ record m { frames = n.frames } → length n.frames ≡ length m.frames → IsWell limits u rs ts n
loan-well limits t u rs ts m n w same rest count = rw same (record { kept = w.kept; frames = count ∙ w.frames; room = w.room; translated = true_still ts m n (still-marked m n rest) w.translated })

-- A PAGE COMES BACK

marked-twice : (s m n : StoreView) → m ≡ record s { frames = m.frames } → n ≡ record m { frames = n.frames } → n ≡ record s { frames = n.frames }
marked-twice s m n first second = second ∙ ap (λ (v : StoreView). record v { frames = n.frames }) first

pub returnable : (s : MachineView) (r : PageRef) → return_refusal s r ≡ None → (page_there s.flat.table r.seg r.page ≡ true) × IsSome (frame_by s.memory r)
returnable s r none = grind (arith, nat_tests, none)

pub put-fits : (table : List Entry) (r : PageRef) (f : Option ℕ) (p : Span) → p ≡ span_at r f → page_there table r.seg r.page ≡ true → SpanFits table p
put-fits table r f p is there = subst (SpanFits table) (sym is) (page-fits table r f there)

pub put-here : (m : StoreView) (r : PageRef) (f : Option ℕ) (p : Span) → p ≡ span_at r f → IsSome (frame_by m r) → IsSome (frame_by m (ref_of p))
put-here m r f p is here = subst (λ q. IsSome (frame_by m (ref_of q))) (sym is) (subst (λ q. IsSome (frame_by m q)) (sym (whole-ref r)) here)

with-span : (r : PageRef) (f : Option ℕ) (p : Span) (s : Places) → p ≡ span_at r f → with_dirty (p ∷ []) s ≡ with_dirty (whole_page r ∷ []) s
unfolding with_dirty
with-span r f p s is = ap (λ (q : Span). dirtied (rec_by s.segs (ref_of q)).frame s) is

pub puts-some : (r : PageRef) (f : Option ℕ) (p : Span) (bytes : List ℕ) (limits : Bounds) (hosts : List HostRange) (rs : List Runner) (t u : List Entry) (m n : StoreView) → p ≡ span_at r f → PutAt bytes (p ∷ []) m n → u ≡ table_with t (span_places false (p ∷ [])) (Some bytes)
    → KeepsMemory m n → PutsBytes r (Some bytes) (view_with limits hosts t rs m) (view_with limits hosts u rs n)
puts-some r f p bytes limits hosts rs t u m n is put same keeps = record {
  flat = same-flat limits hosts rs (table_with t (page_places r) (Some bytes)) u m n (same ∙ ap (λ ps. table_with t ps (Some bytes)) (span-places r f p is)) put.rest;
  placed = put.placed ∙ with-span r f p (places m) is;
  rest = put.rest;
  count = put.count;
  keeps = keeps;
}

pub put-well : (limits : Bounds) (t u : List Entry) (rs : List Runner) (ts : List Translation) (m n : StoreView) (ps : List Place) (bytes : List ℕ) → IsWell limits t rs ts m → u ≡ table_with t ps (Some bytes) → n ≡ record m { frames = n.frames }
    → length n.frames ≡ length m.frames → IsWell limits u rs ts n
put-well limits t u rs ts m n ps bytes w same rest count = still-well limits t u rs ts ts m n w (rw same (noted (Some bytes) ps t)) count (true_still ts m n (still-marked m n rest) w.translated)

pub resident-still : (r : PageRef) (m n : StoreView) → n ≡ record m { frames = n.frames } → IsSome (frame_by m r) → IsSome (frame_by n r)
resident-still r m n rest here = ap (λ (v : StoreView). is_some (frame_by v r)) rest ∙ here

pub returned : (r : PageRef) (bytes : Option (List ℕ)) (s : MachineView) (limits : Bounds) (hosts : List HostRange) (rs : List Runner) (t u : List Entry) (m n : StoreView) → PutsBytes r bytes s (view_with limits hosts t rs m) → SetsLent r false m n → KeepsMemory m n → u ≡ t
    → IsReturned r bytes s (view_with limits hosts u rs n)
returned r bytes s limits hosts rs t u m n put set keeps same = record {
  flat = same-flat limits hosts rs t u m n same set.rest ∙ put.flat;
  placed = lent-places r false m n set ∙ ap (on_loan r false) put.placed;
  rest = marked-twice s.memory m n put.rest set.rest;
  keeps = memory-trans s.memory m n put.keeps keeps;
}

-- THE PAGES OF AN ACCESS

pub asked-from : (m : Machine) (c : Called) (pid addr len : ℕ) (w : Bool) (ps : List Span) → c.pid ≡ pid → IsCaller c m.runners → wanted_in w (pieces_at m.runners c.index) addr len ≡ Some (span_places false ps)
    → pages_asked m pid addr len w ≡ pages_of_bytes (span_places false ps)
asked-from m c pid addr len w ps same is wanted = rw (← same, is) (ap pages_wanted wanted)

sole : (ps : List Span) (d : Span) → 1 ≤ length ps → length ps < 2 → ps ≡ slice_index_or ps 0 d ∷ []
sole [] d some few = absurd (omega (arith, some))
sole (p ∷ []) d some few = refl
sole (p ∷ q ∷ ps) d some few = absurd (omega (arith, few))

both : (ps : List Span) (d : Span) → 2 ≤ length ps → length ps ≤ 2 → ps ≡ slice_index_or ps 0 d ∷ slice_index_or ps 1 d ∷ []
both [] d some few = absurd (omega (arith, some))
both (p ∷ []) d some few = absurd (omega (arith, some))
both (p ∷ q ∷ []) d some few = refl
both (p ∷ q ∷ r ∷ ps) d some few = absurd (omega (arith, few))

abbrev pub AreFound : List Entry → List PageRef → List Span → Type 0
AreFound table rs ps = (rs ≡ pages_of_bytes (span_places false ps)) × ArePages table rs

one-there : (table : List Entry) (p : Span) → SpanFits table p → ArePages table (ref_of p ∷ [])
one-there table p fit =
    let There : PageRef → Type 0 = λ r. page_there table r.seg r.page ≡ true in
    All-cons There (ref_of p) [] fit.1 (All-nil There)

pub one-found : (table : List Entry) (ps : List Span) (d : Span) (n : ℕ) (r : PageRef) → IsAccess (SpanFits table) ps n → 1 ≤ length ps → length ps < 2 → r ≡ ref_of (slice_index_or ps 0 d) → AreFound table (r ∷ []) ps
one-found table ps d n r access some few is =
    let p = slice_index_or ps 0 d in
    let fit : SpanFits table p = access.fit 0 d (omega (arith, some)) in
    let pages : pages_of_bytes (span_places false ps) ≡ ref_of p ∷ [] = ap (λ qs. pages_of_bytes (span_places false qs)) (sole ps d some few) ∙ span-first p.len p [] refl fit.0 in
    rw is (sym pages, one-there table p fit)

two-asked : (p q : Span) → InPage p → InPage q → pages_of_bytes (span_places false (p ∷ q ∷ [])) ≡ ref_of p ∷ (if is_page (ref_of p) q.seg (page_of q) then [] else ref_of q ∷ [])
two-asked p q fit next = span-first p.len p (run q.seg q.at q.len false ++ []) refl fit ∙ ap (λ rs. ref_of p ∷ rs) (span-next q.len (ref_of p) q refl next)

module _ (table : List Entry) (ps : List Span) (d : Span) (n : ℕ) (r x : PageRef) (access : IsAccess (SpanFits table) ps n) (some : 2 ≤ length ps) (first : r ≡ ref_of (slice_index_or ps 0 d)) (second : x ≡ ref_of (slice_index_or ps 1 d)) where
  abbrev p : Span
  p = slice_index_or ps 0 d

  abbrev q : Span
  q = slice_index_or ps 1 d

  fits : SpanFits table p × SpanFits table q
  fits = (access.fit 0 d (omega (arith, some)), access.fit 1 d (omega (arith, some)))

  pages : pages_of_bytes (span_places false ps) ≡ ref_of p ∷ (if is_page (ref_of p) q.seg (page_of q) then [] else ref_of q ∷ [])
  pages = ap (λ qs. pages_of_bytes (span_places false qs)) (both ps d some access.few) ∙ two-asked p q fits.0.0 fits.1.0

  pub same-found : (nat_eq r.seg x.seg && nat_eq r.page x.page) ≡ true → AreFound table (r ∷ []) ps
  same-found same =
      let is : is_page (ref_of p) q.seg (page_of q) ≡ true = rw (first, second) at same in
      rw first (rw is at (sym pages), one-there table p fits.0)

  pub two-found : (nat_eq r.seg x.seg && nat_eq r.page x.page) ≡ false → AreFound table (r ∷ x ∷ []) ps
  two-found other =
      let is : is_page (ref_of p) q.seg (page_of q) ≡ false = rw (first, second) at other in
      let There : PageRef → Type 0 = λ r. page_there table r.seg r.page ≡ true in
      rw (first, second) (rw is at (sym pages), All-cons There (ref_of p) (ref_of q ∷ []) fits.0.1 (one-there table q fits.1))

-- AN ACCESS WHILE PAGES ARE ON LOAN

-- once a page came in, a visit changes nothing
visit-again : (r : PageRef) (s : Places) → HasPage s.segs r → after_visit r None (after_visit r None s) ≡ after_visit r None s
unfolding after_visit
visit-again r s has = by (rec_by (after_visit r None s).segs r).frame (visited r s has) ∙ again r s has
  where
    by : (o : Option ℕ) → is_some o ≡ true → visited_in r o None (after_visit r None s) ≡ visited_in r o (rec_by (after_visit r None s).segs r).frame (after_visit r None s)
    by None some = absurd (true≢false (sym some))
    by (Some f) some = refl

pub fetched-again : (r : PageRef) (s t : StoreView) → HasPage s.segs r → ComeIn false (whole_page r ∷ []) s t → after_visit r None (places t) ≡ places t
fetched-again r s t has came = rw (came-one r s t came) (visit-again r (places s) (has-there s r has))

pub clear-two : (r q : PageRef) (m : StoreView) → after_visit r None (places m) ≡ places m → is_clear (r ∷ q ∷ []) (places m) ≡ (not (is_barred r None (places m)) && not (is_barred q (frame_by m r) (places m)))
unfolding places
clear-two r q m same = ap (λ (x : Places). not (is_barred r None (places m)) && not (is_barred q (rec_by x.segs r).frame x)) same

pub second-asked : (r q : PageRef) (m : StoreView) (pinned : Option ℕ) (barred : Bool) → after_visit r None (places m) ≡ places m → is_barred r None (places m) ≡ false → pinned ≡ frame_of m r.seg r.page → barred ≡ is_barred q pinned (places m)
    → not barred ≡ is_clear (r ∷ q ∷ []) (places m)
unfolding frame_of
second-asked r q m pinned barred same free at is =
    let clear = clear-two r q m same in
    rw (is, at) (sym (clear ∙ ap (λ b. not b && not (is_barred q (frame_by m r) (places m))) free))

pub fails-first : (r q : PageRef) (s t : MachineView) (result : Result (Unit {0}) Errno) → is_err result ≡ true → is_barred r None (places s.memory) ≡ false → LeavesOrFails s.flat.table false (whole_page r ∷ []) s result t
    → MakesReady (r ∷ q ∷ []) s (Err ready.Sigbus) t
fails-first r q s t result is free l =
    let f = failed r s t result is free l in
    record { flat = f.flat; keeps = f.keeps; stay = f.stay; ok = tt; err = f }

pub ready-for : (r q : PageRef) (s t : MachineView) (result : Result (Unit {0}) Errno) (clear : Bool) → is_err result ≡ false → is_barred r None (places s.memory) ≡ false → LeavesOrFails s.flat.table false (whole_page r ∷ []) s result t
    → clear ≡ is_clear (r ∷ q ∷ []) (places t.memory) → MakesReady (r ∷ q ∷ []) s (if clear then Ok tt else Err ready.Lent) t
ready-for r q s t result true fine free l is =
    let w = went _ _ s t result fine l in
    record { flat = w.written; keeps = w.keeps; stay = stay-came r s.memory t.memory free w.came; ok = (inr (sym is), inr w.came); err = tt }
ready-for r q s t result false fine free l is =
    let w = went _ _ s t result fine l in
    record { flat = w.written; keeps = w.keeps; stay = stay-came r s.memory t.memory free w.came; ok = tt; err = (sym is, inr w.came) }

-- AN ACCESS KEEPS ALL LOANS, IF ITS WAY IS CLEAR

none-counted : (p : Frame → Bool) (xs : List Frame) (i : ℕ) (d : Frame) → p d ≡ false → count_by p xs ≡ 0 → p (get_or xs i d) ≡ false
none-counted p [] i d none count = none
none-counted p (x ∷ xs) i d none count =
    let sum : cond (p x) 1 0 + count_by p xs ≡ 0 = sym (sum_by-cons (λ y. cond (p y) 1 0) x xs) ∙ count in
    by i (p x) refl sum (λ j. none-counted p xs j d none)
  where
    by : (j : ℕ) (b : Bool) → p x ≡ b → cond b 1 0 + count_by p xs ≡ 0 → ((k : ℕ) → count_by p xs ≡ 0 → p (get_or xs k d) ≡ false) → p (get_or (x ∷ xs) j d) ≡ false
    by j true h sum rest = absurd (omega arith)
    by zero false h sum rest = h
    by (suc j) false h sum rest = rest j (omega arith)

none-lent : (m : StoreView) (f : ℕ) → lent_of m.frames ≡ 0 → (frame_at (places m).frames f).lent ≡ true → ⊥
unfolding places
none-lent m f none lent =
    let at : (frame_at m.frames f).lent ≡ true = ap (λ (x : Frame). x.lent) (sym (bare-at m.frames f)) ∙ lent in
    true≢false (sym at ∙ none-counted is_lent m.frames f no_frame refl none)

not-true : (b : Bool) → not b ≡ true → b ≡ false
not-true b is = grind (arith, nat_tests)

stay-dirtied : (o : Option ℕ) (s : Places) → LoansStay s (dirtied o s)
stay-dirtied None s = stay-refl s
stay-dirtied (Some f) s = stay-same s (dirtied (Some f) s) (loans-set s.frames f (record (frame_at s.frames f) { dirty = true }) (record { owner = refl; lent = refl }))

stay-dirty : (ps : List Span) (s : Places) → LoansStay s (with_dirty ps s)
unfolding with_dirty
stay-dirty [] s = stay-refl s
stay-dirty (p ∷ ps) s =
    let t = dirtied (rec_by s.segs (ref_of p)).frame s in
    stay-trans s t (with_dirty ps t) (stay-dirtied (rec_by s.segs (ref_of p)).frame s) (stay-dirty ps t)

stay-left : (puts : Bool) (ps : List Span) (s t : Places) → LoansStay s t → LoansStay s (left_by puts ps t)
stay-left false ps s t stay = stay
stay-left true ps s t stay = stay-trans s t (with_dirty ps t) stay (stay-dirty ps t)

-- the state between two visits, and after both
abbrev first_visited : PageRef → Places → Places
first_visited r s = after_visit r None s

abbrev both_visited : PageRef → PageRef → Places → Places
both_visited r q s = after_visit q (rec_by (first_visited r s).segs r).frame (first_visited r s)

abbrev StopsAtOne : PageRef → PageRef → Places → Places → Transfers → Type 0
StopsAtOne r q s t c =
    StopsAt r None s t no_transfers c ⊎ StopsAt q (rec_by (first_visited r s).segs r).frame (first_visited r s) t (visit_counted r None s no_transfers) c

clear-both : (r q : PageRef) (s : Places) → (not (is_barred r None s) && not (is_barred q (rec_by (first_visited r s).segs r).frame (first_visited r s))) ≡ true
    → (is_barred r None s ≡ false) × (is_barred q (rec_by (first_visited r s).segs r).frame (first_visited r s) ≡ false)
clear-both r q s clear = grind (arith, nat_tests, clear)

stay-accessed : (rs : List PageRef) (s : Places) → is_clear rs s ≡ true → LoansStay s (after_access (map whole_page rs) s)
unfolding after_access
stay-accessed [] s clear = stay-refl s
stay-accessed (r ∷ []) s clear = subst (λ q. LoansStay s (first_visited q s)) (sym (whole-ref r)) (stay-visit r None s (not-true _ clear))
stay-accessed (r ∷ q ∷ rs) s clear =
    let free = clear-both r q s clear in
    let first = first_visited r s in
    let stay = stay-trans s first (both_visited r q s) (stay-visit r None s free.0) (stay-visit q (rec_by first.segs r).frame first free.1) in
    subst (λ x. LoansStay s (both_visited (ref_of (whole_page r)) x s)) (sym (whole-ref q)) (subst (λ x. LoansStay s (both_visited x q s)) (sym (whole-ref r)) stay)

stay-stopped : (rs : List PageRef) (s t : Places) (c : Transfers) → is_clear rs s ≡ true → Stops (map whole_page rs) s t c → LoansStay s t
unfolding Stops
stay-stopped [] s t c clear stops = absurd stops
stay-stopped (r ∷ []) s t c clear stops = stay-stops r None s t no_transfers c (not-true _ clear) (subst (λ q. StopsAt q None s t no_transfers c) (whole-ref r) stops)
stay-stopped (r ∷ q ∷ rs) s t c clear stops = elim at [
  | inl here ↦ stay-stops r None s t no_transfers c free.0 here
  | inr there ↦
      stay-trans s (first_visited r s) t (stay-visit r None s free.0)
      (stay-stops q (rec_by (first_visited r s).segs r).frame (first_visited r s) t (visit_counted r None s no_transfers) c free.1 there)
]
  where
    free : (is_barred r None s ≡ false) × (is_barred q (rec_by (first_visited r s).segs r).frame (first_visited r s) ≡ false)
    free = clear-both r q s clear

    at : StopsAtOne r q s t c
    at = subst (λ x. StopsAtOne r x s t c) (whole-ref q) (subst (λ x. StopsAtOne x (ref_of (whole_page q)) s t c) (whole-ref r) stops)

keeps-still : (rs : List PageRef) (m : StoreView) → KeepsLoans rs m m
keeps-still rs m clear = stay-refl (places m)

keeps-access : (puts : Bool) (bytes : List Place) (table : List Entry) (s t : MachineView) (r : Result (Unit {0}) Errno) → LeavesOrFails table puts (page_spans bytes) s r t → KeepsLoans (pages_of_bytes bytes) s.memory t.memory
keeps-access puts bytes table s t r l (inl none) = λ f q owned lent. absurd (none-lent s.memory f none lent)
keeps-access puts bytes table s t (Ok a) l (inr clear) = rw l.came.places (stay-left puts (page_spans bytes) (places s.memory) _ (stay-accessed (pages_of_bytes bytes) (places s.memory) clear))
keeps-access puts bytes table s t (Err e) l (inr clear) = stay-stopped (pages_of_bytes bytes) (places s.memory) (places t.memory) l.stopped.before clear l.stopped.stopped

pub keeps-loans : (act : Act) (addr : ℕ) (who : Option Caller) (before after : List ℕ) (s t : MachineView) (r : Result (Unit {0}) Errno) → DoesBy act addr who before after s r t
    → KeepsLoans (pages_asked_by (writes act) addr (size_of act (length before)) who) s.memory t.memory
keeps-loans act addr None before after s t r d = rw d.by.1.1 (keeps-still [] s.memory)
keeps-loans act addr (Some c) before after s t r d = by (wanted_in (writes act) c.pieces addr (size_of act (length before))) d.by
  where
    by : (o : Option (List Place)) → DoesAt act o before after s r t → KeepsLoans (pages_wanted o) s.memory t.memory
    by None at = rw at.1.1 (keeps-still [] s.memory)
    by (Some bytes) at = keeps-access _ bytes _ s t r at.leaves
