-- Bytes pasted into a segment, and what stays of the others.
use Rattle.shm_fault.proofs.Names.{◌≡◌, ◌≢◌, ℕ, ◌+◌, ◌<◌, ◌≤◌, true, List, [], ◌∷◌, length, get_or, set, take, drop, map, refl, inl, inr, arith, ne_eqb, eqb_tells, common_steps, All-head, All-tail, All-get_or, All, slice_get, Span, Held, find_held, bytes_of, is_held, paste, pasted, written, FitsPage, AreHeldApart}
use Rattle.shm_fault.proofs.Kept.{KeepsId, held-map, apart-map, set-map}

pub length-paste : (xs : List ℕ) (at : ℕ) (bs : List ℕ) → at + length bs ≤ length xs → length (paste xs at bs) ≡ length xs
length-paste xs at bs le = grind (arith, common_steps)

pub bytes_of-pasted_same : (hs : List Held) (seg at : ℕ) (new : List ℕ) → is_held hs seg ≡ true → bytes_of (map (pasted seg at new) hs) seg ≡ paste (bytes_of hs seg) at new
bytes_of-pasted_same [] seg at new e = cc
bytes_of-pasted_same (g ∷ gs) seg at new e = grind (arith, common_steps, (bytes_of-pasted_same gs seg at new))

pub bytes_of-pasted_other : (hs : List Held) (seg at : ℕ) (new : List ℕ) (id : ℕ) → id ≢ seg → bytes_of (map (pasted seg at new) hs) id ≡ bytes_of hs id
bytes_of-pasted_other [] seg at new id ne = refl
bytes_of-pasted_other (g ∷ gs) seg at new id ne = grind (arith, common_steps, (bytes_of-pasted_other gs seg at new id ne))

pub pasted-keeps : (seg at : ℕ) (new : List ℕ) → KeepsId (pasted seg at new)
pasted-keeps seg at new g = elim (eqb_tells g.id seg) [ inl w ↦ rw w.0 refl | inr w ↦ rw w.0 refl ]

pasted-others : (seg at : ℕ) (new : List ℕ) (g : Held) → g.id ≢ seg → pasted seg at new g ≡ g
pasted-others seg at new g other = rw (ne_eqb g.id seg other) refl

pub pasted-set : (hs : List Held) (seg at i : ℕ) (new : List ℕ) (g y : Held) → AreHeldApart hs → find_held hs seg ≡ slice_get hs i → i < length hs → g ≡ get_or hs i g → y ≡ record g { bytes = paste g.bytes at new }
    → set hs i y ≡ map (pasted seg at new) hs
pasted-set hs seg at i new g y apart found within is after = grind (arith, common_steps, set-map, pasted-others)

pub apart-pasted : (hs : List Held) (seg at : ℕ) (new : List ℕ) → AreHeldApart hs → AreHeldApart (map (pasted seg at new) hs)
apart-pasted hs seg at new apart = apart-map (pasted seg at new) (pasted-keeps seg at new) hs apart

pub is_held-pasted : (hs : List Held) (seg at : ℕ) (new : List ℕ) (id : ℕ) → is_held (map (pasted seg at new) hs) id ≡ is_held hs id
is_held-pasted hs seg at new id = held-map (pasted seg at new) (pasted-keeps seg at new) hs id

-- each segment stays as long as it is
pub length-pasted : (hs : List Held) (p : Span) (new : List ℕ) (id : ℕ) → length new ≤ p.len → FitsPage hs p → length (bytes_of (map (pasted p.seg p.at new) hs) id) ≡ length (bytes_of hs id)
length-pasted hs p new id le fit = grind (arith, common_steps, eqb_tells, bytes_of-pasted_same, length-paste, bytes_of-pasted_other)

-- what fits before fits after
pub fits-pasted : (hs : List Held) (p q : Span) (new : List ℕ) → length new ≤ p.len → FitsPage hs p → FitsPage hs q → FitsPage (map (pasted p.seg p.at new) hs) q
fits-pasted hs p q new le fit fits = grind (arith, common_steps, length-pasted, is_held-pasted)

pub fits-written : (hs : List Held) (ps : List Span) (q : Span) (new : List ℕ) → All (FitsPage hs) ps → FitsPage hs q → FitsPage (written hs ps new) q
fits-written hs [] q new fit fits = fits
fits-written hs (p ∷ ps) q new fit fits =
    let first : FitsPage hs p = All-head (FitsPage hs) p ps fit in
    let few : length (take p.len new) ≤ p.len = grind (arith, common_steps) in
    fits-written (map (pasted p.seg p.at (take p.len new)) hs) ps q (drop p.len new)
    (λ k d lt. fits-pasted hs p (get_or ps k d) (take p.len new) few first (All-get_or (FitsPage hs) ps k d lt (All-tail (FitsPage hs) p ps fit)))
    (fits-pasted hs p q (take p.len new) few first fits)
