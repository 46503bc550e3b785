-- A process whose pieces go, or come: what the calls on segments need, and what is kept but for segments that
-- lost their last piece.
use Rattle.shm_life.proofs.Names.{MayBeSwept, ◌≡◌, ◌≤◌, ℕ, ◌+◌, ◌*◌, ◌%◌, false, List, [], ◌∷◌, zero, suc, Some, None, refl, sym, ap, ◌∙◌, arith, All-nil, All, set_in, Bounds, Piece, Life, Live, Entry, Runner, cut, pieces_of, origin_of, without_named, change, with_entry, attached, attach_all, attach_all-same, detached, detach_all, same-refl, same-trans, segments_of, AtFlags, IsCaller, caller_seen, pieces_at, rest_segments, IsLive, SameTable, change-same, Placed, piece_for, pieces_with, PieceFits, is_among, IsTableSound, IsTableSoundBut, slice_get, slice_set, Option, option_map, Bool, true, if◌then◌else◌, rest_is_attached, Cred, AreProcesses, cut_segments, KeepsOwn, live, page_there, is_some, all-inserted}
use Rattle.shm_attach.specs.declared.process.Caller.{Caller}
use Rattle.shm_life.proofs.Running.{kept-by}
use Rattle.shm_life.proofs.Leaving.{keeps-set, orphans-among, keeps-all, keeps-without, keeps-cut, keeps-rest, orphans-named, count-named}
use Rattle.shm_life.proofs.Peopled.{set-apart}
use Rattle.shm_life.proofs.Pieces.{pass-cut, pass-without, piece-same, fit-set}
use Rattle.shm_life.proofs.Settled.{settled-table, caller-runner, caller-fits, lives-map, lives-cut, lives-origin, lives-rest}

-- the processes with the caller's place taken
abbrev pub replaced : List Runner → Caller → Life → List Piece → List Runner
replaced rs c life ps = slice_set rs c.index (record { pid = c.pid; life = life; pieces = ps })

-- the segments that lose pieces are live, and only these may be left without any
pub record Goes (limits : Bounds) (t : List Entry) (after : List Runner) (lost : List ℕ) : Type 0 where
  pub live : All (IsLive t) lost
  pub kept : IsTableSoundBut lost limits t after

pub swept-may : {lost : List ℕ} (limits : Bounds) (t : List Entry) (after : List Runner) → Goes limits t after lost → MayBeSwept lost after t
swept-may limits t after goes = record { live = goes.live; few = goes.kept.few; orphans = goes.kept.orphans }

module _ (limits : Bounds) (t : List Entry) (rs : List Runner) (c : Caller) (k : IsTableSound limits t rs) (is : IsCaller c rs) where
  own : All (PieceFits t) (pieces_at rs c.index)
  own = caller-fits t c rs is k.pieces

  -- those that keep a part are live
  pub rests-live : (from to : ℕ) → All (IsLive t) (rest_segments from to (pieces_at rs c.index))
  rests-live from to = lives-rest t from to (pieces_at rs c.index) own

  same-processes : (life : Life) (ps : List Piece) → AreProcesses limits.most_processes (replaced rs c life ps)
  same-processes life ps =
      set-apart limits.most_processes rs c.index (record { pid = c.pid; life = life; pieces = ps }) (record { pid = c.pid; life = Live c.cred; pieces = pieces_at rs c.index }) (caller-runner c rs is) refl k.processes

  going : (life : Life) (ps : List Piece) (lost : List ℕ) → All (PieceFits t) ps → ((id : ℕ) → is_among lost id ≡ false → pieces_of id (pieces_at rs c.index) ≤ pieces_of id ps)
      → IsTableSoundBut lost limits t (replaced rs c life ps)
  going life ps lost fits le =
      let r : Runner = record { pid = c.pid; life = life; pieces = ps } in
      let x : Runner = record { pid = c.pid; life = Live c.cred; pieces = pieces_at rs c.index } in
      kept-by limits t t rs (replaced rs c life ps) k (omega arith) (omega arith) k.locked (fit-set t rs c.index r k.pieces fits)
      (orphans-among lost rs (replaced rs c life ps) t k.orphans (keeps-set lost rs c.index r x (caller-runner c rs is) le)) (same-processes life ps)

  -- shmdt
  pub named-go : (addr seg : ℕ) → option_map (λ (p : Piece). p.seg) (origin_of addr (pieces_at rs c.index)) ≡ Some seg
      → Goes limits t (replaced rs c (Live c.cred) (without_named addr seg (pieces_at rs c.index))) (seg ∷ [])
  named-go addr seg named =
      let ps = pieces_at rs c.index in
      record {
        live = lives-origin t addr seg ps own named;
        kept = going (Live c.cred) (without_named addr seg ps) (seg ∷ []) (pass-without t addr seg ps own) (keeps-without addr seg ps);
      }

  -- munmap
  pub range-goes : (from to : ℕ) → Goes limits t (replaced rs c (Live c.cred) (cut from to (pieces_at rs c.index))) (cut_segments from to (pieces_at rs c.index))
  range-goes from to =
      let ps = pieces_at rs c.index in
      record {
        live = lives-cut t from to ps own;
        kept = going (Live c.cred) (cut from to ps) (cut_segments from to ps) (pass-cut t from to ps own) (keeps-rest from to ps);
      }

  -- exec and exit
  pub all-go : (life : Life) → Goes limits t (replaced rs c life []) (segments_of (caller_seen c rs))
  all-go life =
      let ps = pieces_at rs c.index in
      record { live = lives-map t ps own; kept = going life [] (segments_of (caller_seen c rs)) (All-nil (PieceFits t)) (keeps-all ps) }

  -- mprotect
  pub renewed-kept : (qs : List Piece) → KeepsOwn (pieces_at rs c.index) qs → IsTableSound limits t (replaced rs c (Live c.cred) qs)
  renewed-kept qs keeps =
      let r : Runner = record { pid = c.pid; life = Live c.cred; pieces = qs } in
      kept-by limits t t rs (replaced rs c (Live c.cred) qs) k (omega arith) (omega arith) k.locked (fit-set t rs c.index r k.pieces (keeps.pages (λ id. is_some (live t id)) (page_there t) own))
      (orphans-named rs (replaced rs c (Live c.cred) qs) t k.orphans (count-named rs c.index r (record { pid = c.pid; life = Live c.cred; pieces = pieces_at rs c.index }) (caller-runner c rs is) keeps.named)) (same-processes (Live c.cred) qs)

  -- setuid
  pub recredited-kept : (cred : Cred) → IsTableSound limits t (replaced rs c (Live cred) (pieces_at rs c.index))
  recredited-kept cred = going (Live cred) (pieces_at rs c.index) [] own (λ id _. omega arith)

  -- shmat
  pub place-goes : (flags : AtFlags) (p : Placed) → PieceFits t (piece_for flags p)
      → Goes limits t (replaced rs c (Live c.cred) (pieces_with (caller_seen c rs) flags p)) (cut_segments p.base (p.base + 4096 * p.pages) (pieces_at rs c.index))
  place-goes flags p fits =
      let ps = pieces_at rs c.index in
      let from = p.base in
      let to = p.base + 4096 * p.pages in
      record {
        live = lives-cut t from to ps own;
        kept = going (Live c.cred) (pieces_with (caller_seen c rs) flags p) (cut_segments from to ps) (all-inserted (PieceFits t) (piece_for flags p) (cut from to ps) fits (pass-cut t from to ps own)) (keeps-cut from to (piece_for flags p) ps);
      }

-- ATTACHING

-- segments that are attached anew, where that is a rule
abbrev pub renewed : Bool → ℕ → ℕ → List Entry → List ℕ → List Entry
renewed b n pid t ids = if b then attach_all n pid t ids else t

pub renewed-same : (b : Bool) (n pid : ℕ) (t : List Entry) (ids : List ℕ) → SameTable t (renewed b n pid t ids)
renewed-same true n pid t ids = attach_all-same n pid ids t
renewed-same false n pid t ids = same-refl t

-- a segment whose attach was noted, after what its range attaches anew
pub attached-goes : (limits : Bounds) (t : List Entry) (rs : List Runner) (c : Caller) (n : ℕ) (kept : List ℕ) (flags : AtFlags) (p : Placed) → IsTableSound limits t rs → IsCaller c rs → PieceFits t (piece_for flags p)
    → Goes limits (change (renewed (rest_is_attached limits.rules) n c.pid t kept) p.seg (attached n c.pid)) (replaced rs c (Live c.cred) (pieces_with (caller_seen c rs) flags p)) (cut_segments p.base (p.base + 4096 * p.pages) (pieces_at rs c.index))
attached-goes limits t rs c n kept flags p k is fits =
    let u = renewed (rest_is_attached limits.rules) n c.pid t kept in
    let v = change u p.seg (attached n c.pid) in
    let same : SameTable t v = same-trans t u v (renewed-same (rest_is_attached limits.rules) n c.pid t kept) (change-same (attached n c.pid) (λ s. refl) (λ s. refl) (λ s. refl) u p.seg) in
    place-goes limits v rs c (settled-table limits t v rs k same) is flags p (piece-same t v (piece_for flags p) same.same.there same.same.pages fits)

module _ (h k : Entry → Entry) (both : (e : Entry) → h (k e) ≡ k (h e)) where
  next : (f : Entry → Entry) (x : Entry) (xs : List Entry) (i : ℕ) (o : Option Entry) → set_in (x ∷ xs) (suc i) f o ≡ x ∷ set_in xs i f o
  next f x xs i None = refl
  next f x xs i (Some e) = refl

  -- two entries set in either order
  set_in-both : (t : List Entry) (i j : ℕ) → set_in (set_in t i h (slice_get t i)) j k (slice_get (set_in t i h (slice_get t i)) j) ≡ set_in (set_in t j k (slice_get t j)) i h (slice_get (set_in t j k (slice_get t j)) i)
  set_in-both [] i j = refl
  set_in-both (x ∷ xs) zero zero = ap (λ e. e ∷ xs) (sym (both x))
  set_in-both (x ∷ xs) zero (suc j) = simp next
  set_in-both (x ∷ xs) (suc i) zero = simp next
  set_in-both (x ∷ xs) (suc i) (suc j) = simp next (ap (λ es. x ∷ es) (set_in-both xs i j))

attach-detach : (n pid : ℕ) (e : Entry) → with_entry (attached n pid) (with_entry (detached n pid) e) ≡ with_entry (detached n pid) (with_entry (attached n pid) e)
attach-detach n pid e = grind arith

-- the attach may be noted before the detaches
pub attached-first : (n pid : ℕ) (ids : List ℕ) (t : List Entry) (seg : ℕ) → detach_all n pid (change t seg (attached n pid)) ids ≡ change (detach_all n pid t ids) seg (attached n pid)
attached-first n pid [] t seg = refl
attached-first n pid (id ∷ ids) t seg =
    ap (λ u. detach_all n pid u ids) (set_in-both (with_entry (attached n pid)) (with_entry (detached n pid)) (attach-detach n pid) t (seg % 32768) (id % 32768))
    ∙ attached-first n pid ids (change t id (detached n pid)) seg

pub attach_all-first : (n pid : ℕ) (ids lost : List ℕ) (t : List Entry) → detach_all n pid (attach_all n pid t ids) lost ≡ attach_all n pid (detach_all n pid t lost) ids
attach_all-first n pid [] lost t = refl
attach_all-first n pid (id ∷ ids) lost t =
    attach_all-first n pid ids lost (change t id (attached n pid)) ∙ ap (λ u. attach_all n pid u ids) (attached-first n pid lost t id)

-- what is attached anew may be noted before the detaches
pub renewed-first : (b : Bool) (n pid : ℕ) (ids lost : List ℕ) (t : List Entry) → detach_all n pid (renewed b n pid t ids) lost ≡ attach_all n pid (detach_all n pid t lost) (if b then ids else [])
renewed-first true n pid ids lost t = attach_all-first n pid ids lost t
renewed-first false n pid ids lost t = refl
