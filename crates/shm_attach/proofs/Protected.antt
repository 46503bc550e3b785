-- What an mprotect makes of the pieces of a process, piece by piece: each segment keeps a piece and gets no first one, and no page
-- is added.
use Rattle.shm_attach.proofs.Names.{◌++◌, ◌∷◌, All, All-append, All-cons, All-nil, all-flat_map, all-inserted, meets, part_above, part_below, subst, Arranged, Bool, IsFit, List, None, Option, Some, [], ap, arith, cases_Bool, cases_eq, common_steps, covering, end_of, false, if◌then◌else◌, inl, inr, length, lowest_address, nat_le, nat_lt, not, parts, pieces_of, refl, suc, sym, true, zero, ℕ, ◌%◌, ◌&&◌, ◌*◌, ◌+◌, ◌-◌, ◌/◌, ◌<◌, ◌==◌, ◌^◌, ◌∷◌, ◌≡◌, ◌≢◌, ◌≤◌, flat_map-cons, Protected, ended, has_protection, high_end, low_end, own_cut, part_between, protects_from, protects_piece, protects_pieces, rounded, stopped, turned, with_split, HasPages, KeepsOwn, pages_of, Eacces, Einval, Enomem, ArrangedBy, IsWhole, all_kind, cond_both, All-contains, All-weaker}
use Rattle.shm_attach.proofs.Accesses.{covering-passes}
use Rattle.shm_attach.proofs.Processes.{one_more, pieces_of-append, pieces_of-inserted}
use Rattle.shm_attach.proofs.Keeping.{pieces_of-there}
use Rattle.shm_attach.proofs.Turned.{Comes, IsAligned, comes-aligned, comes-same, comes-then, covers-at, covers-from, covers-to, laid-aligned, turned-comes, turned-laid}
use Rattle.shm_base.specs.declared.errno.Errno.{Errno}
use Rattle.shm_base.specs.State.{Piece}

-- EACH SEGMENT KEEPS A PIECE

parts-other : (id seg low high : ℕ) (p : Piece) → id ≢ seg → pieces_of id (if p.seg == seg then parts low high p else p ∷ []) ≡ pieces_of id (p ∷ [])
parts-other id seg low high p other = elim (cases_eq p.seg seg) [
  | inl same ↦ grind (arith, common_steps, same, other)
  | inr apart ↦ grind (arith, common_steps, apart)
]

own_cut-other : (id seg low high : ℕ) (ps : List Piece) → id ≢ seg → pieces_of id (own_cut seg low high ps) ≡ pieces_of id ps
own_cut-other id seg low high [] other = refl
own_cut-other id seg low high (p ∷ ps) other =
    let all = flat_map-cons (λ (q : Piece). if q.seg == seg then parts low high q else q ∷ []) p ps in
    let sum = pieces_of-append id (if p.seg == seg then parts low high p else p ∷ []) (own_cut seg low high ps) in
    let first = parts-other id seg low high p other in
    let rest = own_cut-other id seg low high ps other in
    let more = one_more id p ps in
    let one = one_more id p [] in
    omega (arith, ap (pieces_of id) all, sum, first, rest, more, one)

turned-keeps : (w : Bool) (at to : ℕ) (p : Piece) (ps : List Piece) (id : ℕ) → 1 ≤ pieces_of id ps → 1 ≤ pieces_of id (turned w at to p ps)
turned-keeps w at to p ps id some =
    let low = low_end w at to p ps in
    let high = high_end w at to p ps in
    let more = pieces_of-inserted id (part_between w low high p) (own_cut p.seg low high ps) in
    elim (cases_eq id p.seg) [
      | inl same ↦ grind (arith, common_steps, more, same)
      | inr other ↦ let left = own_cut-other id p.seg low high ps other in omega (arith, left, more, some)
    ]

-- and gets no first one
found-some : (a : ℕ) (ps : List Piece) (p : Piece) → covering a ps ≡ Some p → 1 ≤ pieces_of p.seg ps
found-some a ps p is = covering-passes (λ (q : Piece). 1 ≤ pieces_of q.seg ps) a ps p (λ k d lt. pieces_of-there k ps d lt) is

turned-none : (w : Bool) (at to : ℕ) (p : Piece) (ps : List Piece) (id : ℕ) → covering at ps ≡ Some p → pieces_of id ps ≡ 0 → pieces_of id (turned w at to p ps) ≡ 0
turned-none w at to p ps id found none =
    let low = low_end w at to p ps in
    let high = high_end w at to p ps in
    let more = pieces_of-inserted id (part_between w low high p) (own_cut p.seg low high ps) in
    elim (cases_eq id p.seg) [
      | inl same ↦ absurd (let some = found-some at ps p found in let own = ap (λ k. pieces_of k ps) same in omega (arith, some, own, none))
      | inr other ↦ let left = own_cut-other id p.seg low high ps other in grind (arith, common_steps, more, left, other, none)
    ]

-- PIECE BY PIECE

-- the part of a piece may get the protection, and there is room for it
pub record CanTurn (most : ℕ) (w : Bool) (to at : ℕ) (ps : List Piece) (p : Piece) : Type 0 where
  pub found : covering at ps ≡ Some p
  pub order : at < to
  pub may : w ≡ true → p.may_write ≡ true
  pub few : length (turned w at to p ps) ≤ most

-- What holds at an address and of the pieces goes on after each piece. So does what it says of the result, also where a segment
-- is named
pub record GoesUp (P : ℕ → List Piece → Type 0) (R : Protected → Type 0) (most : ℕ) (w : Bool) (to : ℕ) : Type 0 where
  pub passes : (at : ℕ) (ps : List Piece) (p : Piece) → covering at ps ≡ Some p → P at ps → P (end_of p) ps
  pub turns : (at : ℕ) (ps : List Piece) (p : Piece) → CanTurn most w to at ps p → P at ps → P (end_of p) (turned w at to p ps)
  pub names : (at : ℕ) (ps : List Piece) (p : Piece) (x : Protected) → covering at ps ≡ Some p → P at ps → R x → R (with_split p.seg ps (turned w at to p ps) x)

may-write : (w : Bool) (p : Piece) → (w && not p.may_write) ≡ false → w ≡ true → p.may_write ≡ true
may-write w p h is = grind (arith, common_steps)

-- no more is done
abbrev pub left : List Piece → Option Errno → Protected
left ps e = record { pieces = ps; split = []; refusal = e }

module _ (P : ℕ → List Piece → Type 0) (R : Protected → Type 0) (ends : (at : ℕ) (ps : List Piece) (e : Option Errno) → P at ps → R (left ps e)) (most : ℕ) (w : Bool) where
  holds-from : (to : ℕ) → GoesUp P R most w to → (k at : ℕ) (ps : List Piece) → P at ps → R (protects_from k most w to at ps)
  holds-from to up zero at ps h = ends at ps None h
  holds-from to up (suc k) at ps h =
      cond_both (nat_le to at) (ended ps) _ R (λ e. ends at ps None h)
      (λ e. by (λ a qs. holds-from to up k a qs) (grind (arith, common_steps, e)) (covering at ps) refl)
    where
      by : ((a : ℕ) (qs : List Piece) → P a qs → R (protects_from k most w to a qs))
          → at < to → (o : Option Piece) → covering at ps ≡ o → R (protects_piece most w at to ps (protects_from k most w to) o)
      by goes order None is = ends at ps (Some Enomem) h
      by goes order (Some p) is =
          cond_both (w && not p.may_write) (stopped ps Eacces) _ R (λ e. ends at ps (Some Eacces) h)
          (λ may. cond_both (has_protection w p) _ _ R (λ e. goes (end_of p) ps (up.passes at ps p is h))
          (λ lacks. cond_both (nat_lt most (length (turned w at to p ps))) (stopped ps Enomem) _ R (λ e. ends at ps (Some Enomem) h)
          (λ few.
          let can : CanTurn most w to at ps p = record { found = is; order = order; may = may-write w p may; few = grind (arith, common_steps, few) } in
          up.names at ps p _ is h (goes (end_of p) (turned w at to p ps) (up.turns at ps p can h)))))

  -- of a whole mprotect
  pub holds-protected : (addr len : ℕ) (ps : List Piece) → (addr % 4096 ≡ 0 → GoesUp P R most w (addr + rounded len)) → (addr % 4096 ≡ 0 → P addr ps) → ((e : Option Errno) → R (left ps e))
      → R (protects_pieces most w addr len ps)
  holds-protected addr len ps up first h =
      cond_both (not (addr % 4096 == 0)) (stopped ps Einval) _ R (λ e. h (Some Einval))
      (λ page. cond_both (len == 0) (ended ps) _ R (λ e. h None)
      (λ some. cond_both (nat_le (2 ^ 64) (addr + rounded len)) (stopped ps Enomem) _ R (λ e. h (Some Enomem))
      (λ fits. let aligned : addr % 4096 ≡ 0 = grind (arith, common_steps, page) in holds-from (addr + rounded len) (up aligned) (pages_of len) addr ps (first aligned))))

with-pieces : (id : ℕ) (before after : List Piece) (x : Protected) → (with_split id before after x).pieces ≡ x.pieces
with-pieces id before after x = elim (cases_Bool (nat_lt (length before) (length after))) [ inl h ↦ rw h refl | inr h ↦ rw h refl ]

-- what is kept of the pieces alone
module _ (P : ℕ → List Piece → Type 0) (R : List Piece → Type 0) (ends : (at : ℕ) (ps : List Piece) → P at ps → R ps) (most : ℕ) (w : Bool) (addr len : ℕ) (ps : List Piece) where
  abbrev to : ℕ
  to = addr + rounded len

  pub keeps-pieces : (addr % 4096 ≡ 0 → (at : ℕ) (qs : List Piece) (p : Piece) → covering at qs ≡ Some p → P at qs → P (end_of p) qs)
      → (addr % 4096 ≡ 0 → (at : ℕ) (qs : List Piece) (p : Piece) → CanTurn most w to at qs p → P at qs → P (end_of p) (turned w at to p qs))
      → (addr % 4096 ≡ 0 → P addr ps) → R ps → R (protects_pieces most w addr len ps).pieces
  keeps-pieces passes turns first h =
      holds-protected P (λ x. R x.pieces) (λ at qs e. ends at qs) most w addr len ps
      (λ page. record { passes = passes page; turns = turns page; names = λ at qs p x is own r. subst R (sym (with-pieces p.seg qs (turned w at to p qs) x)) r }) first (λ e. h)

-- WHAT IS KEPT

pub protected-keeps : (most : ℕ) (w : Bool) (addr len id : ℕ) (ps : List Piece) → 1 ≤ pieces_of id ps → 1 ≤ pieces_of id (protects_pieces most w addr len ps).pieces
protected-keeps most w addr len id ps some =
    keeps-pieces (λ at qs. 1 ≤ pieces_of id qs) (λ qs. 1 ≤ pieces_of id qs) (λ at qs h. h) most w addr len ps
    (λ page at qs p is h. h) (λ page at qs p can h. turned-keeps w at (addr + rounded len) p qs id h) (λ page. some) some

pub protected-none : (most : ℕ) (w : Bool) (addr len id : ℕ) (ps : List Piece) → pieces_of id ps ≡ 0 → pieces_of id (protects_pieces most w addr len ps).pieces ≡ 0
protected-none most w addr len id ps none =
    keeps-pieces (λ at qs. pieces_of id qs ≡ 0) (λ qs. pieces_of id qs ≡ 0) (λ at qs h. h) most w addr len ps
    (λ page at qs p is h. h) (λ page at qs p can h. turned-none w at (addr + rounded len) p qs id can.found h) (λ page. none) none

-- each piece afterwards is made of pieces before
record Made (ps : List Piece) (at : ℕ) (qs : List Piece) : Type 0 where
  page : at % 4096 ≡ 0
  aligned : All IsAligned qs
  comes : All (Comes ps) qs

pub next-page : (a : ℕ) (ps : List Piece) (p : Piece) → All IsAligned ps → covering a ps ≡ Some p → end_of p % 4096 ≡ 0
next-page a ps p all is = let own : IsAligned p = covering-passes IsAligned a ps p all is in omega (arith, own)

pub protected-comes : (most : ℕ) (w : Bool) (addr len : ℕ) (ps : List Piece) → All IsAligned ps → All (Comes ps) (protects_pieces most w addr len ps).pieces
protected-comes most w addr len ps aligned =
    keeps-pieces (Made ps) (λ qs. All (Comes ps) qs) (λ at qs h. h.comes) most w addr len ps
    (λ page at qs p is h. record { page = next-page at qs p h.aligned is; aligned = h.aligned; comes = h.comes })
    (λ page at qs p can h.
    let made = turned-comes w at (addr + rounded len) p qs h.aligned can.found h.page (omega (arith, page)) can.order can.may in
    record {
      page = next-page at qs p h.aligned can.found;
      aligned = All-weaker (Comes qs) IsAligned (λ x c. comes-aligned qs x h.aligned c) (turned w at (addr + rounded len) p qs) made;
      comes = All-weaker (Comes qs) (Comes ps) (λ x c. comes-then ps qs x h.comes c) (turned w at (addr + rounded len) p qs) made;
    })
    (λ page. record { page = page; aligned = aligned; comes = comes-same ps }) (comes-same ps)

-- no page is added
comes-has : (seg : ℕ → Bool) (page : ℕ → ℕ → Bool) (ps : List Piece) (x : Piece) → All (HasPages seg page) ps → Comes ps x → HasPages seg page x
comes-has seg page ps x all c = (
  subst (λ id. seg id ≡ true) (sym c.attach.seg) (All-contains (HasPages seg page) ps c.of all c.is).0,
  λ j lt.
      let r = c.there (x.base + 4096 * j) (covers-at x (x.base + 4096 * j) (omega arith) (omega (arith, lt))) in
      let from = covers-from r.0 (x.base + 4096 * j) r.2 in
      let to = covers-to r.0 (x.base + 4096 * j) r.2 in
      let k = (x.base + 4096 * j - r.0.base) / 4096 in
      let own = (All-contains (HasPages seg page) ps r.0 all r.1).1 k (omega (arith, from, to)) in
      let same : r.0.first_page + k ≡ x.first_page + j = (let pages = r.3.pages in omega (arith, pages, from)) in
      subst (λ id. page id (x.first_page + j) ≡ true) (sym r.3.seg) (subst (λ n. page r.0.seg n ≡ true) same own),
)

pub protected-own : (most : ℕ) (w : Bool) (addr len : ℕ) (ps : List Piece) → Arranged lowest_address ps → KeepsOwn ps (protects_pieces most w addr len ps).pieces
protected-own most w addr len ps ar =
    record {
      named = λ id some. protected-keeps most w addr len id ps some;
      pages = λ seg page all.
          All-weaker (Comes ps) (HasPages seg page) (λ x c. comes-has seg page ps x all c) (protects_pieces most w addr len ps).pieces
          (protected-comes most w addr len ps (All-weaker IsFit IsAligned (λ p fit. fit.aligned) ps (all_kind IsFit lowest_address ps ar)));
    }

-- all stay in order
record InOrder (at : ℕ) (ps : List Piece) : Type 0 where
  page : at % 4096 ≡ 0
  laid : ArrangedBy IsWhole lowest_address ps

pub protected-laid : (most : ℕ) (w : Bool) (addr len : ℕ) (ps : List Piece) → ArrangedBy IsWhole lowest_address ps → ArrangedBy IsWhole lowest_address (protects_pieces most w addr len ps).pieces
protected-laid most w addr len ps laid =
    keeps-pieces InOrder (ArrangedBy IsWhole lowest_address) (λ at qs h. h.laid) most w addr len ps
    (λ page at qs p is h. record { page = next-page at qs p (laid-aligned lowest_address qs h.laid) is; laid = h.laid })
    (λ page at qs p can h.
    let aligned = laid-aligned lowest_address qs h.laid in
    record {
      page = next-page at qs p aligned can.found;
      laid = turned-laid w at (addr + rounded len) p qs aligned can.found h.page (omega (arith, page)) can.order h.laid;
    })
    (λ page. record { page = page; laid = laid }) laid

-- THE SEGMENTS THAT ARE NAMED

module _ (P : ℕ → Type 0) where
  abbrev OfPiece : Piece → Type 0
  OfPiece p = P p.seg

  below-own : (from : ℕ) (p : Piece) → P p.seg → All OfPiece (part_below from p)
  below-own from p h = cond_both (nat_lt p.base from) _ _ (All OfPiece) (λ e. All-cons OfPiece _ [] h (All-nil OfPiece)) (λ e. All-nil OfPiece)

  above-own : (to : ℕ) (p : Piece) → P p.seg → All OfPiece (part_above to p)
  above-own to p h = cond_both (nat_lt to (end_of p)) _ _ (All OfPiece) (λ e. All-cons OfPiece _ [] h (All-nil OfPiece)) (λ e. All-nil OfPiece)

  parts-own : (id from to : ℕ) (p : Piece) → P p.seg → All OfPiece (if p.seg == id then parts from to p else p ∷ [])
  parts-own id from to p h =
      let one = All-cons OfPiece p [] h (All-nil OfPiece) in
      cond_both (p.seg == id) (parts from to p) (p ∷ []) (All OfPiece)
      (λ e. cond_both (meets from to p) (part_below from p ++ part_above to p) (p ∷ []) (All OfPiece) (λ m. All-append OfPiece (part_below from p) (part_above to p) (below-own from p h) (above-own to p h)) (λ m. one)) (λ e. one)

  turned-own : (w : Bool) (at to : ℕ) (p : Piece) (ps : List Piece) → P p.seg → All OfPiece ps → All OfPiece (turned w at to p ps)
  turned-own w at to p ps h own =
      let low = low_end w at to p ps in
      let high = high_end w at to p ps in
      all-inserted OfPiece (part_between w low high p) (own_cut p.seg low high ps) h
      (all-flat_map OfPiece OfPiece (λ (q : Piece). if q.seg == p.seg then parts low high q else q ∷ []) (parts-own p.seg low high) ps own)

  -- what holds of the segments of all pieces holds of those that are split
  pub split-own : (most : ℕ) (w : Bool) (addr len : ℕ) (ps : List Piece) → All OfPiece ps → All P (protects_pieces most w addr len ps).split
  split-own most w addr len ps own =
      holds-protected (λ at qs. All OfPiece qs) (λ x. All P x.split) (λ at qs e h. All-nil P) most w addr len ps
      (λ page. record {
        passes = λ at qs p is h. h;
        turns = λ at qs p can h. turned-own w at (addr + rounded len) p qs (covering-passes OfPiece at qs p h can.found) h;
        names = λ at qs p x is h r.
            cond_both (nat_lt (length qs) (length (turned w at (addr + rounded len) p qs))) _ _ (λ (y : Protected). All P y.split)
            (λ e. All-cons P p.seg x.split (covering-passes OfPiece at qs p h is) r) (λ e. r);
      })
      (λ page. own) (λ e. All-nil P)
