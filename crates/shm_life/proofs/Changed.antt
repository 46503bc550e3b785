-- What is kept where a segment is locked, marked or written, and where a process forks.
use Rattle.shm_life.proofs.Names.{OrphansAmong, ◌≡◌, ℕ, ◌+◌, ◌/◌, ◌%◌, ◌≤◌, ◌&&◌, not, Bool, false, if◌then◌else◌, List, [], ◌∷◌, length, Some, refl, sym, ◌∙◌, arith, All, IsAccess, OnOk, OnErr, Place, Bounds, lockable, Live, Entry, Runner, pages_of, attach_count, change, marked, locked, Span, Translation, IsCaller, caller_seen, pieces_at, PassPages, pieces_by, wanted, wanted_in, Child, born_child, pieces_by-caller, IsFound, SpanFits, page_there, relocked, get-set_same, get-set_other, sum-set, SamePages, SameTable, same-refl, change-pages, change-locked, change-left, PieceFits, PiecesFit, IsTableSound, IsWell, IsWellBut, StoreView, frame_of, cases_eq, nat_tests, true≢false, Cred, lock_refusal, may_not_lock, passes_limit, Segment, pages_in, FlatCaller, AreSpans, AreProcesses, Option, None, Result, Ok, Err, is_some, Accessed, AreTrue, MovesLead, Touched, answer_of}
use Rattle.shm_attach.specs.declared.process.Caller.{Caller}
use Rattle.shm_segments.specs.declared.head.Found.{Found}
use Rattle.shm_segments.specs.Table as table
use Rattle.shm_life.proofs.Leaving.{orphans-among}
use Rattle.shm_life.proofs.Pieces.{fit-set, fit-same}
use Rattle.shm_life.proofs.Settled.{caller-fits, moved-by, noted-well}
use Rattle.shm_life.proofs.Running.{true_still, kept-by}

-- LOCKED

pub pages-seen : (t : List Entry) (f : Found) → IsFound t f → pages_in (table.segment_seen t f) ≡ pages_of f.head.size
pages-seen t f found = omega (arith, found.long)

module _ (t : List Entry) (f : Found) (found : IsFound t f) (o : Option ℕ) where
  abbrev x : Entry
  x = record { destroyed = f.seg / 32768; segment = Some (table.segment_seen t f) }

  abbrev y : Entry
  y = record { destroyed = f.seg / 32768; segment = Some (relocked o (table.segment_seen t f)) }

  -- the sum loses what the segment had in it, and gains what it has
  pub relocked-sum : locked (change t f.seg (relocked o)) + (if f.head.locked then pages_of f.head.size else 0) ≡ locked t + (if is_some o then pages_of f.head.size else 0)
  relocked-sum = grind (arith, sum-set)

relocked-bytes : (o : Option ℕ) (s : Segment) → length (relocked o s).bytes ≡ length s.bytes
relocked-bytes o s = grind (arith)

relocked-dest : (o : Option ℕ) (s : Segment) → (relocked o s).dest ≡ s.dest
relocked-dest o s = grind (arith)

kept-relocked : (limits : Bounds) (t : List Entry) (rs : List Runner) (seg : ℕ) (o : Option ℕ) → IsTableSound limits t rs → locked (change t seg (relocked o)) ≤ lockable limits → IsTableSound limits (change t seg (relocked o)) rs
kept-relocked limits t rs seg o k few =
    let same : SamePages t (change t seg (relocked o)) = change-pages (relocked o) (relocked-bytes o) t seg in
    kept-by limits t (change t seg (relocked o)) rs rs k (omega (arith, same.size)) (omega (arith, same.reserved)) few (fit-same t (change t seg (relocked o)) rs same k.pieces)
    (λ i h. absurd (true≢false (sym (k.orphans i (sym (change-left (relocked o) (relocked-dest o) t seg rs i) ∙ h))))) k.processes

-- a segment locked or unlocked
pub relocked-well : (limits : Bounds) (t : List Entry) (rs : List Runner) (ts : List Translation) (m n : StoreView) (seg : ℕ) (o : Option ℕ) → IsWell limits t rs ts m → locked (change t seg (relocked o)) ≤ lockable limits
    → length n.frames ≡ length m.frames → ((s page : ℕ) → frame_of n s page ≡ frame_of m s page) → IsWell limits (change t seg (relocked o)) rs ts n
relocked-well limits t rs ts m n seg o w few frames still =
    record { kept = kept-relocked limits t rs seg o w.kept few; frames = frames ∙ w.frames; room = w.room; translated = true_still ts m n still w.translated }

pub lock-few : (t : List Entry) (f : Found) (limits : Bounds) (cred : Cred) → IsFound t f → locked t ≤ lockable limits → (not f.head.locked && passes_limit limits cred t (table.segment_seen t f)) ≡ false
    → locked (change t f.seg (relocked (Some cred.uid))) ≤ lockable limits
lock-few t f limits cred found few fits = grind (arith, nat_tests, relocked-sum t f found (Some cred.uid), pages-seen t f found, few, fits)

-- a lock that is granted passed both tests
pub lock-granted : (limits : Bounds) (cred : Cred) (t : List Entry) (x : Segment) → lock_refusal limits cred t x ≡ None
    → (may_not_lock limits cred ≡ false) × ((not x.locked && passes_limit limits cred t x) ≡ false)
lock-granted limits cred t x none = grind (arith, nat_tests, none)

pub unlock-few : (t : List Entry) (f : Found) (most : ℕ) → IsFound t f → locked t ≤ most → locked (change t f.seg (relocked None)) ≤ most
unlock-few t f most found few = let sum = relocked-sum t f found None in omega (arith, sum, few)

-- MARKED

-- only a segment that was marked may be without pieces
pub marked-left : (rs : List Runner) (t : List Entry) (f : Found) → IsFound t f → OrphansAmong [] rs t → OrphansAmong (f.seg ∷ []) rs (change t f.seg marked)
marked-left rs t f found none = λ i h.
    let y : Entry = record { destroyed = f.seg / 32768; segment = Some (marked (table.segment_seen t f)) } in
    let here = get-set_same t (f.seg % 32768) y _ found.entry in
    grind (arith, nat_tests, found.entry, cases_eq (f.seg % 32768) i, here, get-set_other t (f.seg % 32768) i y, none i, h)

-- marked segments may be without pieces
pub marked-well : (limits : Bounds) (t : List Entry) (rs : List Runner) (ts : List Translation) (m : StoreView) (f : Found) → IsFound t f → IsWell limits t rs ts m → IsWellBut (f.seg ∷ []) limits (change t f.seg marked) rs ts m
marked-well limits t rs ts m f found w =
    let same = change-pages marked (λ s. refl) t f.seg in
    let locks = change-locked marked (λ s. refl) (λ s. refl) t f.seg in
    let fit = fit-same t (change t f.seg marked) rs same w.kept.pieces in
    let left = marked-left rs t f found w.kept.orphans in
    grind (arith, same.size, same.reserved, locks, w.kept.locked, fit, left)

-- SPANS

-- the spans that the pieces of a process gave lie in pages of its segments
pub spans-there : {write : Bool} {addr n : ℕ} (t : List Entry) (rs : List Runner) (c : Caller) (ps : List Span) → IsCaller c rs → PiecesFit t rs → AreSpans write (pieces_by c.pid rs) addr n ps
    → IsAccess (SpanFits t) ps n
spans-there t rs c ps is fit spans =
    let own : pieces_by c.pid rs ≡ pieces_at rs c.index = pieces_by-caller c.pid rs (caller_seen c rs) is in
    let fits = caller-fits t c rs is fit in
    let pass : PassPages (page_there t) (pieces_by c.pid rs) = rw own (λ k d lt. (fits k d lt).1) in
    record { few = spans.few; fit = λ k d lt. (spans.within k d lt, spans.pages (page_there t) pass k d lt); sum = spans.sum }

-- the places that a process asks for are those that its own pieces give
pub asked : (write : Bool) (rs : List Runner) (c : Caller) (addr len : ℕ) (r : Option (List Place)) → IsCaller c rs → wanted write c.pid addr len rs ≡ r → wanted_in write (pieces_at rs c.index) addr len ≡ r
asked write rs c addr len r is found = rw (pieces_by-caller c.pid rs (caller_seen c rs) is) at found

-- a table that was written, or stayed
either-same : {A E : Type 0} (r : Result A E) (t u w : List Entry) → OnOk r (u ≡ w) → OnErr r (u ≡ t) → SameTable t w → SameTable t u
either-same (Ok a) t u w written same alike = rw written alike
either-same (Err e) t u w written same alike = rw same (same-refl t)

-- an access that wrote or failed leaves all well, once its moves were noted
pub written-well : {A E : Type 0} (r : Result A E) (limits : Bounds) (t u w : List Entry) (rs after : List Runner) (ts us : List Translation) (m n : StoreView) (ps : List Span) (touched : Touched) → IsWell limits t rs ts m → SameTable t w
    → OnOk r (u ≡ w) → OnErr r (u ≡ t) → length n.frames ≡ length m.frames → Accessed ps m n (answer_of touched r) → after ≡ rs → ((a b : StoreView) → AreTrue ts a → MovesLead touched.moved.items a b → AreTrue us b)
    → IsWell limits u after us n
written-well r limits t u w rs after ts us m n ps touched well same written kept frames accessed runners noted =
    noted-well limits t u rs after ts us m n touched.moved.items well (either-same r t u w written kept same) frames runners noted (moved-by ps m n touched r accessed)

-- FORK

pub born-fits : (t : List Entry) (rs : List Runner) (k : FlatCaller) (child : Child) → PiecesFit t rs → All (PieceFits t) k.pieces → PiecesFit t (born_child rs k child)
born-fits t rs k child fit own = fit-set t rs child.index (record { pid = child.pid; life = Live k.cred; pieces = k.pieces }) fit own

pub forked-kept : (limits : Bounds) (t : List Entry) (rs after : List Runner) → IsTableSound limits t rs → PiecesFit t after → ((id : ℕ) → attach_count rs id ≤ attach_count after id) → AreProcesses limits.most_processes after → IsTableSound limits t after
forked-kept limits t rs after k fit more processes = kept-by limits t t rs after k (omega arith) (omega arith) k.locked fit (orphans-among [] rs after t k.orphans (λ id _. more id)) processes
