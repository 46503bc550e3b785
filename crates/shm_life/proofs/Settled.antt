-- What is kept through calls that take pieces out, and through those that put pieces in.
use Rattle.shm_life.proofs.Names.{nat_tests, ◌≡◌, ℕ, zero, suc, ◌+◌, ◌<◌, take, Bool, List, [], ◌∷◌, length, get_or, filter, Some, None, refl, sym, ap, ◌∙◌, arith, All-nil, All-map, All-filter, none-some, All, find, Bounds, Piece, Live, Entry, Runner, Span, meets, cut_segments, leaves_rest, rest_segments, has_origin, origin_of, StoreView, PageMove, Touched, MovesLead, Accessed, answer_of, Translation, AreTrue, IsCaller, pieces_at, caller_there, IsLive, orphan, identifier_at, change, detach_all, SameTable, detach_all-same, PieceFits, PiecesFit, is_among, OrphansAmong, IsTableSoundBut, IsWellBut, IsWell, change_all, attach_all, attach_all-same, Segment, SegmentsView, view_of, map, slice_get, Option, option_map, Result, Ok, Err}
use Rattle.shm_attach.specs.declared.process.Caller.{Caller}
use Rattle.shm_life.proofs.Running.{kept-by}
use Rattle.shm_life.proofs.Pieces.{RunnerFits, all-cons, all-head, all-tail, all-at, fit-same}

pub orphans-same : (ids : List ℕ) (rs : List Runner) (t u : List Entry) → ((qs : List Runner) (i : ℕ) → orphan qs u i ≡ orphan qs t i) → ((i : ℕ) → identifier_at u i ≡ identifier_at t i) → OrphansAmong ids rs t → OrphansAmong ids rs u
orphans-same ids rs t u left own among = λ i h. ap (is_among ids) (own i) ∙ among i (sym (left rs i) ∙ h)

-- the table and the pieces are sound, and the memory has its frames
pub well-kept : {lost : List ℕ} (limits : Bounds) (t u : List Entry) (rs after : List Runner) (ts us : List Translation) (m : StoreView) → IsWell limits t rs ts m → IsTableSoundBut lost limits u after → AreTrue us m
    → IsWellBut lost limits u after us m
well-kept limits t u rs after ts us m w kept all = record { kept = kept; frames = w.frames; room = w.room; translated = all }

-- no piece is removed
pub settled-table : {lost : List ℕ} (limits : Bounds) (t u : List Entry) (rs : List Runner) → IsTableSoundBut lost limits t rs → SameTable t u → IsTableSoundBut lost limits u rs
settled-table {lost} limits t u rs k same =
    kept-by limits t u rs rs k (omega (arith, same.same.size)) (omega (arith, same.same.reserved)) (omega (arith, k.locked, same.locked)) (fit-same t u rs same.same k.pieces) (orphans-same lost rs t u same.left same.same.ids k.orphans) k.processes

-- nor the memory loses a frame
pub still-well : {lost : List ℕ} (limits : Bounds) (t u : List Entry) (rs : List Runner) (ts us : List Translation) (m n : StoreView) → IsWellBut lost limits t rs ts m → SameTable t u
    → length n.frames ≡ length m.frames → AreTrue us n → IsWellBut lost limits u rs us n
still-well limits t u rs ts us m n w same frames all = record { kept = settled-table limits t u rs w.kept same; frames = frames ∙ w.frames; room = w.room; translated = all }

-- nor an access, whose moves were noted
pub noted-well : (limits : Bounds) (t u : List Entry) (rs after : List Runner) (ts us : List Translation) (m n : StoreView) (ms : List PageMove) → IsWell limits t rs ts m → SameTable t u → length n.frames ≡ length m.frames
    → after ≡ rs → ((a b : StoreView) → AreTrue ts a → MovesLead ms a b → AreTrue us b) → MovesLead ms m n → IsWell limits u after us n
noted-well limits t u rs after ts us m n ms w same frames runners noted moved = rw runners (still-well limits t u rs ts us m n w same frames (noted m n w.translated moved))

-- what an access names has moved, whether it was done or not
pub moved-by : {A E : Type 0} (ps : List Span) (m n : StoreView) (u : Touched) (r : Result A E) → Accessed ps m n (answer_of u r) → MovesLead u.moved.items m n
moved-by ps m n u (Ok a) accessed = accessed.paged.moves
moved-by ps m n u (Err e) accessed = accessed.paged.moves

-- WHAT PIECES NAME IS LIVE

pub lives-map : (table : List Entry) (ps : List Piece) → All (PieceFits table) ps → All (IsLive table) (map (λ (p : Piece). p.seg) ps)
lives-map table ps fit = All-map (IsLive table) (λ (p : Piece). p.seg) ps (λ k d lt. (fit k d lt).0)

pub lives-cut : (table : List Entry) (from to : ℕ) (ps : List Piece) → All (PieceFits table) ps → All (IsLive table) (cut_segments from to ps)
lives-cut table from to ps fit = lives-map table (filter (meets from to) ps) (All-filter (meets from to) (PieceFits table) ps fit)

-- those of which a range leaves a part
pub lives-rest : (table : List Entry) (from to : ℕ) (ps : List Piece) → All (PieceFits table) ps → All (IsLive table) (rest_segments from to ps)
lives-rest table from to ps fit = lives-map table (filter (leaves_rest from to) ps) (All-filter (leaves_rest from to) (PieceFits table) ps fit)

pub found-all : (P : Piece → Type 0) (test : Piece → Bool) (ps : List Piece) (p : Piece) → All P ps → find test ps ≡ Some p → P p
found-all P test [] p all is = absurd (none-some p is)
found-all P test (q ∷ qs) p all is = grind (arith, nat_tests, all-head P q qs all, found-all P test qs p (all-tail P q qs all))

pub lives-origin : (table : List Entry) (addr seg : ℕ) (ps : List Piece) → All (PieceFits table) ps → option_map (λ (p : Piece). p.seg) (origin_of addr ps) ≡ Some seg → All (IsLive table) (seg ∷ [])
lives-origin table addr seg ps fit is = by (origin_of addr ps) refl is
  where
    by : (o : Option Piece) → origin_of addr ps ≡ o → option_map (λ (p : Piece). p.seg) o ≡ Some seg → All (IsLive table) (seg ∷ [])
    by None found z = absurd (none-some seg z)
    by (Some p) found z =
        let same : p.seg ≡ seg = cc z in
        all-cons (IsLive table) seg [] (rw (← same) (found-all (PieceFits table) (has_origin addr) ps p fit found).0) (All-nil (IsLive table))

-- the caller among the processes
pub caller-runner : (c : Caller) (rs : List Runner) → IsCaller c rs → slice_get rs c.index ≡ Some (record { pid = c.pid; life = Live c.cred; pieces = pieces_at rs c.index })
caller-runner c rs is = caller_there c rs is

pub caller-fits : (table : List Entry) (c : Caller) (rs : List Runner) → IsCaller c rs → PiecesFit table rs → All (PieceFits table) (pieces_at rs c.index)
caller-fits table c rs is fit = all-at (RunnerFits table) rs c.index (record { pid = c.pid; life = Live c.cred; pieces = pieces_at rs c.index }) fit (caller_there c rs is)

-- one more segment that is changed
pub change_all-more : (f : Segment → Segment) (t : List Entry) (ids : List ℕ) (i d : ℕ) → i < length ids → change_all f t (take (i + 1) ids) ≡ change (change_all f t (take i ids)) (get_or ids i d) f
change_all-more f t [] i d lt = absurd (omega (arith, lt))
change_all-more f t (x ∷ xs) zero d lt = refl
change_all-more f t (x ∷ xs) (suc i) d lt =
    let next : suc i + 1 ≡ suc (i + 1) = omega arith in
    rw next (change_all-more f (change t x f) xs i d (omega (arith, lt)))

-- a loop that changes the segments of a list, after one more
pub change-next : (f : Segment → Segment) (v w x : SegmentsView) (ids : List ℕ) (i : ℕ) → i < length ids → x ≡ view_of (change w.table (get_or ids i 0) f) w.memory
    → w ≡ view_of (change_all f v.table (take i ids)) v.memory → x ≡ view_of (change_all f v.table (take (i + 1) ids)) v.memory
change-next f v w x ids i lt next so_far =
    next ∙ ap (λ (y : SegmentsView). view_of (change y.table (get_or ids i 0) f) y.memory) so_far
    ∙ ap (λ (t : List Entry). view_of t v.memory) (sym (change_all-more f v.table ids i 0 lt))

-- what is live stays so
pub live-detached : (n pid : ℕ) (t : List Entry) (ids : List ℕ) (id : ℕ) → IsLive t id → IsLive (detach_all n pid t ids) id
live-detached n pid t ids id is = (detach_all-same n pid ids t).same.there id ∙ is

pub live-attached : (n pid : ℕ) (t : List Entry) (ids : List ℕ) (id : ℕ) → IsLive t id → IsLive (attach_all n pid t ids) id
live-attached n pid t ids id is = (attach_all-same n pid ids t).same.there id ∙ is
