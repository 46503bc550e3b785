-- The pieces of a process lie apart, inside the addresses, and are few.
use Rattle.shm_laws.proofs.Names.{AllFillPages, protects_pieces, rounded, ◌≡◌, ℕ, zero, suc, ◌+◌, ◌*◌, ◌%◌, ◌≤◌, Bool, true, List, [], ◌∷◌, length, Some, slice_get, slice_set, refl, ap, arith, All, All-contains, All-map, All-weaker, none-some, ProcessCall, Event, Segment, Piece, Live, Runner, Machine, Opening, start_of, runner_at_start, pages_in, end_of, covers, lowest_address, occupied-cut, shorter_filter, all-slice_set, Caller, Outcome, caller_of, acts, pieces_with, IsMove, FillsPages, LieApart, LiesInside, AreLaidOut, sym, piece_for, pieces_beside, ArrangedBy, IsWhole, all_above, all_kind, cut_by, inserted_by, some_by, whole_kind, keeps-pieces, protected-laid, IsAligned, covers-from, covers-to, laid-aligned, all-at}
use Rattle.shm_base.specs.Bounds.{Bounds}
use Rattle.shm_laws.proofs.Limiting.{limits-stay}
use Rattle.shm_laws.proofs.Handing.{Attaches, Hands, hands-acts, by-hands}
use Rattle.shm_laws.proofs.Granting.{Aligned, me-is}
use Rattle.shm_laws.proofs.Refusing.{by-move}

-- by rising base from an address on, each after the end of the one before
abbrev Laid : ℕ → List Piece → Type 0
Laid low ps = ArrangedBy IsWhole low ps

-- WHAT LIES IN ORDER LIES APART AND INSIDE

-- the first piece and one after it
not-both : (low a k : ℕ) (p : Piece) (ps : List Piece) (q : Piece) → Laid low (p ∷ ps) → slice_get ps k ≡ Some q → covers p a ≡ true → covers q a ≡ true → ⊥
not-both low a k p ps q laid is h j =
    let behind = all-at (λ (r : Piece). end_of p ≤ r.base) ps k q (all_above IsWhole (end_of p) ps laid.1.1) is in
    let to = covers-to p a h in
    let from = covers-from q a j in
    omega (arith, behind, to, from)

laid-apart : (low : ℕ) (ps : List Piece) → Laid low ps → LieApart ps
laid-apart low [] laid a j k p q isp isq h i = absurd (none-some p isp)
laid-apart low (r ∷ rs) laid a zero zero p q isp isq h i = refl
laid-apart low (r ∷ rs) laid a zero (suc k) p q isp isq h i = absurd (not-both low a k r rs q laid isq (let same : r ≡ p = cc isp in rw same h) i)
laid-apart low (r ∷ rs) laid a (suc j) zero p q isp isq h i = absurd (not-both low a j r rs p laid isp (let same : r ≡ q = cc isq in rw same i) h)
laid-apart low (r ∷ rs) laid a (suc j) (suc k) p q isp isq h i = ap suc (laid-apart (end_of r) rs laid.1.1 a j k p q isp isq h i)

laid-inside : (ps : List Piece) → Laid lowest_address ps → All LiesInside ps
laid-inside ps laid = λ k d lt.
    let is = all_kind IsWhole lowest_address ps laid k d lt in
    record { page = is.aligned; some = is.some; from = all_above IsWhole lowest_address ps laid k d lt; to = is.within }

-- WHAT EACH CALL LEAVES

pub record IsSpace (most : ℕ) (ps : List Piece) : Type 0 where
  laid : Laid lowest_address ps
  few : length ps ≤ most

space-aligned : (most : ℕ) (ps : List Piece) → IsSpace most ps → All IsAligned ps
space-aligned most ps s = laid-aligned lowest_address ps s.laid

abbrev Spaces : ℕ → List Runner → Type 0
Spaces most rs = All (λ (r : Runner). IsSpace most r.pieces) rs

laid-out : (most : ℕ) (ps : List Piece) → IsSpace most ps → AreLaidOut most ps
laid-out most ps s = record { apart = laid-apart lowest_address ps s.laid; inside = laid-inside ps s.laid; few = s.few }

some-pages : (x : Segment) → FillsPages x → 1 ≤ pages_in x
some-pages x f = omega (arith, f.some, f.whole, f.enough)

protected-space : (most : ℕ) (w : Bool) (addr len : ℕ) (ps : List Piece) → IsSpace most ps → IsSpace most (protects_pieces most w addr len ps).pieces
protected-space most w addr len ps space =
    record {
      laid = protected-laid most w addr len ps space.laid;
      few = keeps-pieces (λ at qs. length qs ≤ most) (λ qs. length qs ≤ most) (λ at qs h. h) most w addr len ps (λ page at qs p is h. h) (λ page at qs p can h. can.few) (λ page. space.few) space.few;
    }

module _ (s : Machine) (pid : ℕ) (c : Caller) (is : caller_of s pid ≡ Some c) (filled : AllFillPages s) (spaces : Spaces s.limits.most_pieces s.runners) where
  own : IsSpace s.limits.most_pieces c.pieces
  own = All-contains (λ (r : Runner). IsSpace s.limits.most_pieces r.pieces) s.runners (record { pid = pid; life = Live c.cred; pieces = c.pieces }) spaces (me-is s pid c is)

  set-one : (i : ℕ) (r : Runner) → IsSpace s.limits.most_pieces r.pieces → Spaces s.limits.most_pieces (slice_set s.runners i r)
  set-one i r h = all-slice_set (λ (q : Runner). IsSpace s.limits.most_pieces q.pieces) s.runners i r spaces h

  module _ (call : ProcessCall) (o : Outcome) (k : Attaches s c call o) where
    abbrev new : Piece
    new = piece_for k.flags k.place

    abbrev to : ℕ
    to = k.place.base + 4096 * k.place.pages

    page : k.place.base % 4096 ≡ 0
    page = k.there.lies.page (space-aligned s.limits.most_pieces c.pieces own)

    set : IsWhole new
    set = record { aligned = page; some = rw k.there.whole (some-pages k.there.segment (filled k.place.seg k.there.segment k.there.stands)); within = k.there.lies.to }

    attaches-space : IsSpace s.limits.most_pieces (pieces_with c k.flags k.place)
    attaches-space =
        record {
          laid =
              inserted_by IsWhole whole_kind lowest_address new (pieces_beside c k.place) (cut_by IsWhole whole_kind lowest_address k.place.base to c.pieces own.laid page (omega (arith, page)) (omega arith))
              k.there.lies.from set (occupied-cut k.place.base to c.pieces);
          few = k.there.few;
        }

  hands-spaces : (call : ProcessCall) (o : Outcome) → Hands s c call o → Spaces s.limits.most_pieces o.state.runners
  hands-spaces call o =
      by-hands s c call o (Spaces s.limits.most_pieces) (λ i r. IsSpace s.limits.most_pieces r.pieces) spaces set-one (attaches-space call o)
      (λ k. record { laid = some_by IsWhole k.stays lowest_address c.pieces own.laid; few = let le = shorter_filter k.stays c.pieces in omega (arith, le, own.few) })
      (λ k. own)
      (λ k. record { laid = cut_by IsWhole whole_kind lowest_address k.addr (k.addr + rounded k.len) c.pieces own.laid k.page (omega (arith, k.page)) (omega arith); few = k.few })
      (λ k. protected-space s.limits.most_pieces k.writable k.addr k.len c.pieces own) (λ k. own)

-- the pieces of each process of a machine
abbrev pub AreInOrder : Machine → Type 0
AreInOrder s = Spaces s.limits.most_pieces s.runners

pub in-order-move : (s : Machine) (n : ℕ) (e : Event) (t : Machine) → AllFillPages s → AreInOrder s → IsMove s n e t → AreInOrder t
in-order-move s n e t filled spaces m =
    rw (limits-stay s n e t m)
    (by-move s n e t (λ r u. Spaces s.limits.most_pieces u.runners) (λ c is. hands-spaces s e.pid c is filled spaces e.call (acts s n c e.call) (hands-acts s n c e.call)) (λ r no. spaces) m)

pub in-order-start : (o : Opening) → AreInOrder (start_of o)
in-order-start o = All-map (λ (r : Runner). IsSpace o.limits.most_pieces r.pieces) runner_at_start o.processes (λ k d lt. record { laid = tt; few = omega arith })

pub all-aligned : (s : Machine) → AreInOrder s → Aligned s
all-aligned s spaces = All-weaker (λ (r : Runner). IsSpace s.limits.most_pieces r.pieces) (λ (r : Runner). All IsAligned r.pieces) (λ r h. space-aligned s.limits.most_pieces r.pieces h) s.runners spaces

pub all-laid-out : (limits : Bounds) (s : Machine) → s.limits ≡ limits → AreInOrder s → All (λ (r : Runner). AreLaidOut limits.most_pieces r.pieces) s.runners
all-laid-out limits s same spaces =
    rw (sym same) (All-weaker (λ (r : Runner). IsSpace s.limits.most_pieces r.pieces) (λ (r : Runner). AreLaidOut s.limits.most_pieces r.pieces) (λ r h. laid-out s.limits.most_pieces r.pieces h) s.runners spaces)
