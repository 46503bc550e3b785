-- The part of an attach that gets another protection lies where pieces of that attach lay, so the pieces stay in order.
use Rattle.shm_attach.proofs.Names.{All, length, All-cons, ap, All-head, All-nil, All-tail, Bool, List, MOST_SHMALL, None, Option, Some, [], arith, cases_Bool, cases_lt, common_steps, covering, covers, cut, end_address, end_of, false, get_or, if◌then◌else◌, inl, inr, inserted, lowest_address, meets, none-some, part_above, part_below, parts, refl, subst, sym, true, ℕ, ◌%◌, ◌*◌, ◌+◌, ◌-◌, ◌/◌, ◌<◌, ◌==◌, ◌∙◌, ◌∷◌, ◌≡◌, ◌≤◌, ◌⊎◌, All-contains, All-contains_itself, All-weaker, Contains-get_or, Contains, max, flat_map-cons, high_end, low_end, own_cut, part_between, turned, ArrangedBy, IsWhole, all_above, all_kind, cut_by, inserted_by, whole_kind, all-flat_map, all-inserted}
use Rattle.shm_attach.proofs.Accesses.{covering-passes}
use Rattle.shm_attach.proofs.Growing.{AreAt, left-many}
use Rattle.shm_attach.proofs.Keeping.{occupied-cut}
use Rattle.shm_base.specs.State.{Piece}

-- PARTS

abbrev pub IsAligned : Piece → Type 0
IsAligned p = p.base % 4096 ≡ 0

pub laid-aligned : (low : ℕ) (ps : List Piece) → ArrangedBy IsWhole low ps → All IsAligned ps
laid-aligned low ps laid = All-weaker IsWhole IsAligned (λ p h. h.aligned) ps (all_kind IsWhole low ps laid)

-- both pieces have the same page of one segment at each address that is in both
pub record IsOfAttach (p q : Piece) : Type 0 where
  pub seg : p.seg ≡ q.seg
  pub pages : p.base + 4096 * q.first_page ≡ q.base + 4096 * p.first_page

-- p is a part of q, and both allow the same writes and the same protections
pub record IsPartOf (p q : Piece) : Type 0 where
  pub attach : IsOfAttach p q
  pub writable : p.writable ≡ q.writable
  pub may_write : p.may_write ≡ q.may_write
  pub from : q.base ≤ p.base
  pub to : end_of p ≤ end_of q

pub part_refl : (p : Piece) → IsPartOf p p
part_refl p = record { attach = record { seg = refl; pages = refl }; writable = refl; may_write = refl; from = omega arith; to = omega arith }

module _ (from to : ℕ) (page_from : from % 4096 ≡ 0) (page_to : to % 4096 ≡ 0) where
  below-parts : (p : Piece) → IsAligned p → meets from to p ≡ true → All (λ q. IsPartOf q p) (part_below from p)
  below-parts p page m = grind (arith, common_steps)

  above-parts : (p : Piece) → IsAligned p → meets from to p ≡ true → All (λ q. IsPartOf q p) (part_above to p)
  above-parts p page m = grind (arith, common_steps)

  pub all-parts : (p : Piece) → IsAligned p → All (λ q. IsPartOf q p) (parts from to p)
  all-parts p page = grind (arith, below-parts, above-parts, All-cons, part_refl)

-- WHERE A PIECE COMES FROM

-- it is of the attach of a piece, at each of its addresses a piece had the same page, and no page of it lies beyond those of a piece
pub record Comes (ps : List Piece) (x : Piece) : Type 0 where
  pub of : Piece
  pub is : Contains ps of
  pub attach : IsOfAttach x of
  pub may_write : x.may_write ≡ of.may_write
  pub limited : x.writable ≡ true → (x.may_write ≡ true) ⊎ (of.writable ≡ true)
  pub there : (a : ℕ) → covers x a ≡ true → (r : Piece) × Contains ps r × (covers r a ≡ true) × IsOfAttach x r
  pub reach : (r : Piece) × Contains ps r × IsOfAttach x r × (x.first_page + x.pages ≤ r.first_page + r.pages)

attach_trans : (p q r : Piece) → IsOfAttach p q → IsOfAttach q r → IsOfAttach p r
attach_trans p q r a b = record { seg = a.seg ∙ b.seg; pages = omega (arith, a.pages, b.pages) }

pub covers-from : (p : Piece) (a : ℕ) → covers p a ≡ true → p.base ≤ a
covers-from p a h = grind (arith, common_steps)

pub covers-to : (p : Piece) (a : ℕ) → covers p a ≡ true → a < end_of p
covers-to p a h = grind (arith, common_steps)

pub covers-at : (p : Piece) (a : ℕ) → p.base ≤ a → a < end_of p → covers p a ≡ true
covers-at p a from to = grind (arith, common_steps)

pub covers-found : (a : ℕ) (ps : List Piece) (p : Piece) → covering a ps ≡ Some p → (p.base ≤ a) × (a < end_of p)
covers-found a [] p found = absurd (none-some p found)
covers-found a (q ∷ ps) p found = elim (cases_Bool (covers q a)) [
  | inl h ↦ let same : q ≡ p = cc (rw h at found) in subst (λ (x : Piece). (x.base ≤ a) × (a < end_of x)) same (grind (arith, common_steps, h))
  | inr h ↦ covers-found a ps p (rw h at found)
]

pub found-in : (a : ℕ) (ps : List Piece) (p : Piece) → covering a ps ≡ Some p → Contains ps p × (covers p a ≡ true)
found-in a ps p is =
    let at = covers-found a ps p is in
    (covering-passes (Contains ps) a ps p (All-contains_itself ps) is, covers-at p a at.0 at.1)

comes-part : (ps : List Piece) (x p : Piece) → Contains ps p → IsPartOf x p → Comes ps x
comes-part ps x p is part =
    record {
      of = p;
      is = is;
      attach = part.attach;
      may_write = part.may_write;
      limited = λ w. inr (sym part.writable ∙ w);
      there = λ a h. (p, is, covers-at p a (let from = covers-from x a h in omega (arith, from, part.from)) (let to = covers-to x a h in omega (arith, to, part.to)), part.attach);
      reach = (p, is, part.attach, let same = part.attach.pages in omega (arith, part.to, same));
    }

pub comes-same : (ps : List Piece) → All (Comes ps) ps
comes-same ps = λ k d lt. let p = get_or ps k d in comes-part ps p p (Contains-get_or ps k d lt) (part_refl p)

pub comes-then : (ps ys : List Piece) (x : Piece) → All (Comes ps) ys → Comes ys x → Comes ps x
comes-then ps ys x all c =
    let y = All-contains (Comes ps) ys c.of all c.is in
    record {
      of = y.of;
      is = y.is;
      attach = attach_trans x c.of y.of c.attach y.attach;
      may_write = c.may_write ∙ y.may_write;
      limited = λ w. elim (c.limited w) [
        | inl may ↦ inl may
        | inr was ↦ elim (y.limited was) [ inl may ↦ inl (c.may_write ∙ may) | inr wrote ↦ inr wrote ]
      ];
      there = λ a h.
          let r = c.there a h in
          let z = (All-contains (Comes ps) ys r.0 all r.1).there a r.2 in
          (z.0, z.1, z.2, attach_trans x r.0 z.0 r.3 z.3);
      reach =
          let r = c.reach in
          let z = (All-contains (Comes ps) ys r.0 all r.1).reach in
          (z.0, z.1, attach_trans x r.0 z.0 r.2 z.2, omega (arith, r.3, z.3));
    }

pub comes-aligned : (ps : List Piece) (x : Piece) → All IsAligned ps → Comes ps x → IsAligned x
comes-aligned ps x all c = let page = All-contains IsAligned ps c.of all c.is in omega (arith, page, c.attach.pages)

-- THE PIECE OF AN ADDRESS

pub not-here : (p : Piece) (ps : List Piece) (a : ℕ) → end_of p ≤ a → covering a (p ∷ ps) ≡ covering a ps
not-here p ps a le = grind arith

-- an address is in one piece at most
found-there : (low a : ℕ) (ps : List Piece) → ArrangedBy IsWhole low ps → All (λ (q : Piece). covers q a ≡ true → covering a ps ≡ Some q) ps
found-there low a [] laid = All-nil (λ (q : Piece). covers q a ≡ true → covering a [] ≡ Some q)
found-there low a (p ∷ ps) laid =
    All-cons (λ (q : Piece). covers q a ≡ true → covering a (p ∷ ps) ≡ Some q) p ps (λ h. rw h refl)
    (λ k d lt h.
    let begins = all_above IsWhole (end_of p) ps laid.1.1 k d lt in
    let from = covers-from (get_or ps k d) a h in
    not-here p ps a (omega (arith, begins, from)) ∙ found-there (end_of p) a ps laid.1.1 k d lt h)

-- the cut of one segment's pieces is the cut of all, if it meets no others
own_cut-is : (id low high : ℕ) (ps : List Piece) → All (λ (q : Piece). meets low high q ≡ true → q.seg ≡ id) ps → own_cut id low high ps ≡ cut low high ps
own_cut-is id low high [] all = refl
own_cut-is id low high (p ∷ ps) all =
    let first = All-head (λ (q : Piece). meets low high q ≡ true → q.seg ≡ id) p ps all in
    let rest = own_cut-is id low high ps (All-tail (λ (q : Piece). meets low high q ≡ true → q.seg ≡ id) p ps all) in
    grind (arith, common_steps, flat_map-cons, first, rest)

met-here : (low high : ℕ) (q : Piece) → meets low high q ≡ true → (q.base < high) × (low < end_of q)
met-here low high q h = grind (arith, common_steps)

-- ONE PART WITH ANOTHER PROTECTION

-- where the part may begin, and where it may end: a segment's table has this many pages
pub record IsLow (p : Piece) (at low : ℕ) : Type 0 where
  pub page : low % 4096 ≡ 0
  pub lowest : lowest_address ≤ low
  pub under : low ≤ at
  pub begins : p.base ≤ 4096 * p.first_page + low

pub record IsHigh (p : Piece) (size at high : ℕ) : Type 0 where
  pub page : high % 4096 ≡ 0
  pub over : at < high
  pub within : high ≤ end_address
  pub few : 4096 * p.first_page + high ≤ p.base + 4096 * MOST_SHMALL
  pub ends : 4096 * p.first_page + high ≤ p.base + 4096 * size

-- each piece of the segment is within the table
abbrev pub AreSized : ℕ → ℕ → List Piece → Type 0
AreSized seg size ps = All (λ (q : Piece). q.seg ≡ seg → q.first_page + q.pages ≤ size) ps

module _ (w : Bool) (at to : ℕ) (p : Piece) (ps : List Piece) (aligned : All IsAligned ps) (found : covering at ps ≡ Some p) (page : at % 4096 ≡ 0) (to-page : to % 4096 ≡ 0) (order : at < to) where
  abbrev low : ℕ
  low = low_end w at to p ps

  abbrev high : ℕ
  high = high_end w at to p ps

  here : Contains ps p × (covers p at ≡ true)
  here = found-in at ps p found

  own-page : IsAligned p
  own-page = All-contains IsAligned ps p aligned here.0

  -- it begins within the piece, or where the piece below begins
  record Below : Type 0 where
    piece : Piece
    is : Contains ps piece
    low-is : low ≡ piece.base
    ends : end_of piece ≡ p.base
    within : high < end_of p
    share : IsOfAttach piece p

  -- where the part begins
  low-is : (low % 4096 ≡ 0) × (low ≤ at) × ((p.base ≤ low) ⊎ Below)
  low-is = by (covering (at - 1) ps) refl
    where
      from : p.base ≤ at
      from = covers-from p at here.1

      by : (o : Option Piece) → covering (at - 1) ps ≡ o → (low % 4096 ≡ 0) × (low ≤ at) × ((p.base ≤ low) ⊎ Below)
      by None e = (grind (arith, common_steps, e, page, own-page), grind (arith, common_steps, e, from), inl (grind (arith, common_steps, e, from)))
      by (Some q) e =
          let below = covers-found (at - 1) ps q e in
          let below-page : IsAligned q = All-contains IsAligned ps q aligned (found-in (at - 1) ps q e).0 in
          let joined : (p.base ≤ low) ⊎ (((low ≡ q.base) × (high < end_of p)) × ((end_of q ≡ p.base) × ((q.seg ≡ p.seg) × (q.base + 4096 * p.first_page ≡ p.base + 4096 * q.first_page)))) = grind (arith, common_steps, e, from) in (
            grind (arith, common_steps, e, page, own-page, below-page),
            grind (arith, common_steps, e, from, below),
            elim joined [
              | inl h ↦ inl h
              | inr h ↦ inr (record { piece = q; is = (found-in (at - 1) ps q e).0; low-is = h.0.0; within = h.0.1; ends = h.1.0; share = record { seg = h.1.1.0; pages = h.1.1.1 } })
            ],
          )

  -- it ends within the piece, or where the piece above ends
  record Above : Type 0 where
    piece : Piece
    is : Contains ps piece
    high-is : high ≡ end_of piece
    begins : end_of p ≡ piece.base
    within : p.base < low
    share : IsOfAttach p piece

  -- and where it ends
  high-is : (high % 4096 ≡ 0) × (at < high) × ((high ≤ end_of p) ⊎ Above)
  high-is = by (covering (end_of p) ps) refl
    where
      to-end : at < end_of p
      to-end = covers-to p at here.1

      end-page : (q : Piece) → IsAligned q → end_of q % 4096 ≡ 0
      end-page q h = omega (arith, h)

      by : (o : Option Piece) → covering (end_of p) ps ≡ o → (high % 4096 ≡ 0) × (at < high) × ((high ≤ end_of p) ⊎ Above)
      by None e = (grind (arith, common_steps, e, to-page, end-page p own-page), grind (arith, common_steps, e, to-end, order), inl (grind (arith, common_steps, e)))
      by (Some q) e =
          let above = covers-found (end_of p) ps q e in
          let above-page : IsAligned q = All-contains IsAligned ps q aligned (found-in (end_of p) ps q e).0 in
          let joined : (high ≤ end_of p) ⊎ (((high ≡ end_of q) × (p.base < low)) × ((end_of p ≡ q.base) × ((p.seg ≡ q.seg) × (p.base + 4096 * q.first_page ≡ q.base + 4096 * p.first_page)))) = grind (arith, common_steps, e) in (
            grind (arith, common_steps, e, to-page, end-page p own-page, end-page q above-page),
            grind (arith, common_steps, e, to-end, order, above),
            elim joined [
              | inl h ↦ inl h
              | inr h ↦ inr (record { piece = q; is = (found-in (end_of p) ps q e).0; high-is = h.0.0; within = h.0.1; begins = h.1.0; share = record { seg = h.1.1.0; pages = h.1.1.1 } })
            ],
          )

  pub low-page : low % 4096 ≡ 0
  low-page = low-is.0

  pub high-page : high % 4096 ≡ 0
  high-page = high-is.0

  pub low-under : low ≤ at
  low-under = low-is.1

  pub high-over : at < high
  high-over = high-is.1

  abbrev part : Piece
  part = part_between w low high p

  part-shares : IsOfAttach part p
  part-shares = record { seg = refl; pages = by low-is.2 }
    where
      by : (p.base ≤ low) ⊎ Below → low + 4096 * p.first_page ≡ p.base + 4096 * ((4096 * p.first_page + low - p.base) / 4096)
      by (inl h) = let a = low-page in let b = own-page in omega (arith, h, a, b)
      by (inr b) = let a = low-page in let c = own-page in let is = b.low-is in let same = b.share.pages in omega (arith, a, c, is, same)

  pub part-end : end_of part ≡ high
  part-end = let a = low-page in let b = high-page in let c = low-under in let d = high-over in omega (arith, a, b, c, d)

  pub part-there : (a : ℕ) → covers part a ≡ true → (r : Piece) × Contains ps r × (covers r a ≡ true) × IsOfAttach part r
  part-there a h =
      let from : low ≤ a = covers-from part a h in
      let to : a < high = (let e = covers-to part a h in omega (arith, e, from)) in
      elim (cases_lt a p.base) [
        | inl under ↦ elim low-is.2 [
          | inl past ↦ absurd (omega (arith, under, past, from))
          | inr b ↦ (
            b.piece,
            b.is,
            covers-at b.piece a (let is = b.low-is in omega (arith, is, from)) (let e = b.ends in omega (arith, e, under)),
            attach_trans part p b.piece part-shares (record { seg = sym b.share.seg; pages = sym b.share.pages }),
          )
        ]
        | inr over ↦ elim (cases_lt a (end_of p)) [
          | inl within ↦ (p, here.0, covers-at p a (omega (arith, over)) within, part-shares)
          | inr beyond ↦ elim high-is.2 [
            | inl before ↦ absurd (omega (arith, beyond, before, to))
            | inr b ↦
                (b.piece, b.is, covers-at b.piece a (let e = b.begins in omega (arith, e, beyond)) (let is = b.high-is in omega (arith, is, to)), attach_trans part p b.piece part-shares b.share)
          ]
        ]
      ]

  part-reach : (r : Piece) × Contains ps r × IsOfAttach part r × (part.first_page + part.pages ≤ r.first_page + r.pages)
  part-reach = elim high-is.2 [
    | inl before ↦ (p, here.0, part-shares, ends p part-shares before)
    | inr b ↦ (let shares = attach_trans part p b.piece part-shares b.share in (b.piece, b.is, shares, ends b.piece shares (let is = b.high-is in omega (arith, is))))
  ]
    where
      ends : (r : Piece) → IsOfAttach part r → high ≤ end_of r → part.first_page + part.pages ≤ r.first_page + r.pages
      ends r shares le = let same = shares.pages in let end = part-end in omega (arith, same, le, end)

  own-parts : (q : Piece) → Contains ps q → All (Comes ps) (if q.seg == p.seg then parts low high q else q ∷ [])
  own-parts q is = by (q.seg == p.seg)
    where
      by : (b : Bool) → All (Comes ps) (if b then parts low high q else q ∷ [])
      by true = All-weaker (λ x. IsPartOf x q) (Comes ps) (λ x h. comes-part ps x q is h) (parts low high q) (all-parts low high low-page high-page q (All-contains IsAligned ps q aligned is))
      by false = All-cons (Comes ps) q [] (comes-part ps q q is (part_refl q)) (All-nil (Comes ps))

  pub turned-comes : (w ≡ true → p.may_write ≡ true) → All (Comes ps) (turned w at to p ps)
  turned-comes may =
      all-inserted (Comes ps) part (own_cut p.seg low high ps)
      (record { of = p; is = here.0; attach = part-shares; may_write = refl; limited = λ h. inl (may h); there = part-there; reach = part-reach })
      (all-flat_map (Contains ps) (Comes ps) (λ (q : Piece). if q.seg == p.seg then parts low high q else q ∷ []) own-parts ps (All-contains_itself ps))

  -- AND ALL STAY IN ORDER

  module _ (laid : ArrangedBy IsWhole lowest_address ps) where
    -- a piece that has an address of the part
    was-there : (a : ℕ) → low ≤ a → a < high → (r : Piece) × Contains ps r × (covers r a ≡ true) × IsOfAttach part r
    was-there a le lt = part-there a (covers-at part a le (let e = part-end in omega (arith, e, lt)))

    whole : (r : Piece) → Contains ps r → IsWhole r
    whole r is = All-contains IsWhole ps r (all_kind IsWhole lowest_address ps laid) is

    one-piece : (q r : Piece) (a : ℕ) → Contains ps q → Contains ps r → covers q a ≡ true → covers r a ≡ true → q ≡ r
    one-piece q r a has is h k =
        let there = λ (x : Piece) (in-it : Contains ps x) (c : covers x a ≡ true).
        All-contains (λ (y : Piece). covers y a ≡ true → covering a ps ≡ Some y) ps x (found-there lowest_address a ps laid) in-it c in
        cc (there q has h, there r is k)

    -- what the part meets belongs to its segment
    met-own : (q : Piece) → Contains ps q → meets low high q ≡ true → q.seg ≡ p.seg
    met-own q has m =
        let met = met-here low high q m in
        let some = (whole q has).some in
        let a = max low q.base in
        let r = was-there a (omega arith) (let u = low-under in let o = high-over in omega (arith, met.0, u, o)) in
        ap (λ (x : Piece). x.seg) (one-piece q r.0 a has r.1 (covers-at q a (omega arith) (omega (arith, met.1, some))) r.2) ∙ sym r.3.seg

    -- so its cut is the cut of all
    pub turned-cut : turned w at to p ps ≡ inserted part (cut low high ps)
    turned-cut = ap (inserted part) (own_cut-is p.seg low high ps (λ k d lt. met-own (get_or ps k d) (Contains-get_or ps k d lt)))

    pub low_is : IsLow p at low
    low_is =
        let u = low-under in
        let o = high-over in
        let r = was-there low (omega arith) (omega (arith, u, o)) in
        let above = All-contains (λ (q : Piece). lowest_address ≤ q.base) ps r.0 (all_above IsWhole lowest_address ps laid) r.1 in
        let from = covers-from r.0 low r.2 in
        let same = part-shares.pages in
        record { page = low-page; lowest = omega (arith, above, from); under = low-under; begins = omega (arith, same) }

    high-within : high ≤ end_address
    high-within =
        let u = low-under in
        let o = high-over in
        let r = was-there (high - 1) (omega (arith, u, o)) (omega (arith, o)) in
        let past = covers-to r.0 (high - 1) r.2 in
        let is = whole r.0 r.1 in
        omega (arith, past, is.within)

    pub high_is : (size : ℕ) → All (λ (q : Piece). q.first_page + q.pages ≤ MOST_SHMALL) ps → AreSized p.seg size ps → IsHigh p size at high
    high_is size few sized =
        let r = part-reach in
        let most = All-contains (λ (q : Piece). q.first_page + q.pages ≤ MOST_SHMALL) ps r.0 few r.1 in
        let own = All-contains (λ (q : Piece). q.seg ≡ p.seg → q.first_page + q.pages ≤ size) ps r.0 sized r.1 (sym r.2.seg) in
        let e = part-end in
        let same = part-shares.pages in
        record { page = high-page; over = high-over; within = high-within; few = omega (arith, most, r.3, e, same); ends = omega (arith, own, r.3, e, same) }

    pub turned-laid : ArrangedBy IsWhole lowest_address (turned w at to p ps)
    turned-laid =
        let u = low-under in
        let o = high-over in
        let e = part-end in
        let within = high-within in
        let page = low-page in
        let lowest = low_is.lowest in
        rw turned-cut
        (inserted_by IsWhole whole_kind lowest_address part (cut low high ps)
        (cut_by IsWhole whole_kind lowest_address low high ps laid low-page high-page (omega (arith, u, o)))
        lowest (record { aligned = page; some = omega (arith, e, u, o); within = omega (arith, e, within) }) (rw part-end (occupied-cut low high ps)))

    -- ONE PIECE AT MOST IS IN IT

    -- a piece in the part's range is this one, if this one has its first address
    is-it : (q r : Piece) → Contains ps q → Contains ps r → r.base ≤ q.base → q.base < end_of r → q ≡ r
    is-it q r has is from to = one-piece q r q.base has is (covers-at q q.base (omega arith) (let some = (whole q has).some in omega (arith, some))) (covers-at r q.base from to)

    each-at : (b : ℕ) → ((q : Piece) → Contains ps q → low ≤ q.base → q.base < end_of q → end_of q ≤ high → q.base ≡ b) → AreAt b low high ps
    each-at b each = λ k d lt from to.
        let has = Contains-get_or ps k d lt in
        let some = (whole (get_or ps k d) has).some in
        each (get_or ps k d) has from (omega (arith, some)) to

    one-in : (b : ℕ) × AreAt b low high ps
    one-in = elim low-is.2 [
      | inr below ↦
          let begins = below.low-is in
          let ends = below.ends in
          let within = below.within in (
            below.piece.base,
            each-at below.piece.base (λ q has from some to. elim (cases_lt q.base p.base) [
              | inl under ↦ ap (λ (x : Piece). x.base) (is-it q below.piece has below.is (omega (arith, begins, from)) (omega (arith, ends, under)))
              | inr over ↦ absurd (let same = ap end_of (is-it q p has here.0 over (omega (arith, some, to, within))) in omega (arith, same, to, within))
            ]),
          )
      | inl starts ↦ elim high-is.2 [
        | inl stops ↦ (p.base, each-at p.base (λ q has from some to. ap (λ (x : Piece). x.base) (is-it q p has here.0 (omega (arith, starts, from)) (omega (arith, some, to, stops)))))
        | inr above ↦
            let begins = above.begins in
            let ends = above.high-is in
            let within = above.within in (
              above.piece.base,
              each-at above.piece.base (λ q has from some to. elim (cases_lt q.base (end_of p)) [
                | inl under ↦ absurd (let same = ap (λ (x : Piece). x.base) (is-it q p has here.0 (omega (arith, starts, from)) under) in omega (arith, same, from, within))
                | inr over ↦ ap (λ (x : Piece). x.base) (is-it q above.piece has above.is (omega (arith, begins, over)) (omega (arith, some, to, ends)))
              ]),
            )
      ]
    ]

    pub kept-many : length ps ≤ length (cut low high ps) + 1
    kept-many = left-many one-in.0 lowest_address low high ps laid one-in.1
