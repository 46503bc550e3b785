-- A segment that is inserted among others in order of their indexes.
use Rattle.shm_fault.proofs.Names.{◌≡◌, ◌≢◌, ℕ, ◌<◌, ◌≤◌, ◌+◌, ◌*◌, ◌/◌, false, List, [], ◌∷◌, map, replicate, sum_by, Some, None, refl, sym, arith, sum_by-cons, nat_tests, common_steps, cases_eq, eq-eqb, ne_eqb, SegRec, AreApart, find_seg, but, Held, find_held, is_held, with_zeros, FitsPage, length-replicate, Span, inserted, seg_id, AreHeldApart}

-- a function that keeps identifiers
pub map-inserted : {T U : Type 0} (f : T → U) (id : T → ℕ) (id₂ : U → ℕ) → ((x : T) → id₂ (f x) ≡ id x) → (x : T) (xs : List T) → map f (inserted id x xs) ≡ inserted id₂ (f x) (map f xs)
map-inserted f id id₂ keeps x [] = refl
map-inserted f id id₂ keeps x (y ∷ ys) = rw (keeps x, keeps y) (grind (arith, nat_tests, map-inserted f id id₂ keeps x ys))

-- sums ask for no order
pub sum-inserted : {T : Type 0} (h : T → ℕ) (id : T → ℕ) (x : T) (xs : List T) → sum_by h (inserted id x xs) ≡ h x + sum_by h xs
sum-inserted h id x [] = sum_by-cons h x []
sum-inserted h id x (y ∷ ys) = grind (arith, nat_tests, common_steps, sum-inserted h id x ys, sum_by-cons)

-- what is found afterwards
pub find-seg_same : (gs : List SegRec) (h : SegRec) → find_seg gs h.id ≡ None → find_seg (inserted seg_id h gs) h.id ≡ Some h
find-seg_same [] h new = rw (eq-eqb h.id h.id refl) refl
find-seg_same (g ∷ gs) h new = grind (arith, nat_tests, find-seg_same gs h)

pub find-seg_other : (gs : List SegRec) (h : SegRec) (k : ℕ) → h.id ≢ k → find_seg (inserted seg_id h gs) k ≡ find_seg gs k
find-seg_other [] h k ne = rw (ne_eqb h.id k ne) refl
find-seg_other (g ∷ gs) h k ne = grind (arith, nat_tests, find-seg_other gs h k ne)

pub apart-seg : (gs : List SegRec) (h : SegRec) → AreApart gs → find_seg gs h.id ≡ None → AreApart (inserted seg_id h gs)
apart-seg [] h apart new = (refl, tt)
apart-seg (g ∷ gs) h apart new = grind (arith, nat_tests, common_steps, cases_eq g.id h.id, apart-seg gs h, find-seg_other gs h)

-- taken out again
pub but-inserted : (gs : List SegRec) (h : SegRec) → find_seg gs h.id ≡ None → but h.id (inserted seg_id h gs) ≡ gs
but-inserted [] h new = rw (eq-eqb h.id h.id refl) refl
but-inserted (g ∷ gs) h new = grind (arith, nat_tests, but-inserted gs h, but-none (g ∷ gs) h.id)
  where
    but-none : (hs : List SegRec) (id : ℕ) → find_seg hs id ≡ None → but id hs ≡ hs
    but-none [] id none = refl
    but-none (k ∷ hs) id none = grind (arith, nat_tests, but-none hs id)

-- the same of segments as lists of bytes
pub find-zeros_same : (hs : List Held) (id pages : ℕ) → is_held hs id ≡ false → find_held (with_zeros hs id pages) id ≡ Some (record { id = id; locked = false; bytes = replicate (4096 * pages) 0 })
find-zeros_same [] id pages new = rw (eq-eqb id id refl) refl
find-zeros_same (g ∷ gs) id pages new = grind (arith, nat_tests, common_steps, find-zeros_same gs id pages)

pub find-zeros_other : (hs : List Held) (id pages at : ℕ) → at ≢ id → find_held (with_zeros hs id pages) at ≡ find_held hs at
find-zeros_other [] id pages at apart = rw (ne_eqb id at (λ is. apart (sym is))) refl
find-zeros_other (g ∷ gs) id pages at apart = grind (arith, nat_tests, common_steps, find-zeros_other gs id pages at apart)

-- spans of a new segment
pub fits-zeros : (hs : List Held) (p : Span) (pages : ℕ) → is_held hs p.seg ≡ false → p.at + p.len ≤ 4096 * pages → 0 < p.len → p.at + p.len ≤ 4096 * (p.at / 4096) + 4096
    → FitsPage (with_zeros hs p.seg pages) p
fits-zeros hs p pages new whole some page = grind (arith, common_steps, find-zeros_same, length-replicate)

pub apart-zeros : (hs : List Held) (id pages : ℕ) → is_held hs id ≡ false → AreHeldApart hs → AreHeldApart (with_zeros hs id pages)
apart-zeros [] id pages new apart = (refl, tt)
apart-zeros (g ∷ gs) id pages new apart = grind (arith, nat_tests, common_steps, cases_eq g.id id, apart-zeros gs id pages, find-zeros_other gs id pages)
