-- One segment is destroyed in a sweep, or stays if it has pieces or no mark.
use Rattle.shm_life.proofs.Names.{common_steps, ◌≡◌, ◌≢◌, ℕ, ◌+◌, ◌/◌, ◌%◌, ◌<◌, ◌≤◌, ◌==◌, ◌&&◌, Bool, true, false, List, ◌∷◌, length, get_or, Some, None, refl, arith, cases_eq, slice_get_past, get_or-le-sum_by, Segment, Piece, Entry, Runner, identifier, attach_count, pages_held, pages_locked, pieces_of, pieces_of-there, live, destroyed, is_orphan, orphan, identifier_at, get-set_same, get-set_other, length-slice_set, sum-set, PieceFits, OrphansAmong, Sweeps, nat_tests, slice_get, is_some}
use Rattle.shm_life.proofs.Orphans.{swept-destroyed}
use Rattle.shm_life.proofs.Pieces.{fit-table}

-- WHERE AN ORPHAN STANDS

orphan-index : (rs : List Runner) (t : List Entry) (i : ℕ) → length t ≤ 32768 → orphan rs t i ≡ true → i < 32768
orphan-index rs t i few h = grind (arith, nat_tests, slice_get_past t i, few, h)

own_left : (rs : List Runner) (t : List Entry) (seg i : ℕ) → i < 32768 → orphan rs t i ≡ true → identifier_at t i ≡ seg → is_orphan rs seg (live t seg) ≡ true
own_left rs t seg i small h own = grind (arith, nat_tests, small, h, own)

-- a segment that has pieces or no mark need not be among them
pub fewer-left : (rs : List Runner) (t : List Entry) (seg : ℕ) (rest : List ℕ) → length t ≤ 32768 → is_orphan rs seg (live t seg) ≡ false → OrphansAmong (seg ∷ rest) rs t → OrphansAmong rest rs t
fewer-left rs t seg rest few none among = λ i h. grind (arith, nat_tests, own_left rs t seg i, orphan-index rs t i few h, none, among i h, h)

-- DESTROYED

module _ (t : List Entry) (seg : ℕ) (x : Entry) (there : slice_get t (seg % 32768) ≡ Some x) (own : x.destroyed ≡ seg / 32768) where
  pub fewer-destroyed : (rs : List Runner) (rest : List ℕ) → length t ≤ 32768 → OrphansAmong (seg ∷ rest) rs t → OrphansAmong rest rs (destroyed t seg)
  fewer-destroyed rs rest few among = λ i h.
      let here = get-set_same t (seg % 32768) (record { destroyed = seg / 32768 + 1; segment = None }) x there in
      let other = get-set_other t (seg % 32768) i (record { destroyed = seg / 32768 + 1; segment = None }) in
      grind (arith, nat_tests, cases_eq (seg % 32768) i, here, other, orphan-index rs t i few, among i, h)

  -- what else is live stays so
  live-destroyed : (id : ℕ) → id ≢ seg → is_some (live t id) ≡ true → live (destroyed t seg) id ≡ live t id
  live-destroyed id other lives =
      grind (arith, nat_tests, common_steps, there, own, other, get-set_other t (seg % 32768) (id % 32768), lives)

  piece-kept : (p : Piece) → p.seg ≢ seg → PieceFits t p → PieceFits (destroyed t seg) p
  piece-kept p other h = grind (arith, live-destroyed)

-- no piece names a segment that has no piece
unnamed : (rs : List Runner) (seg : ℕ) → attach_count rs seg ≡ 0 → (k : ℕ) (d : Runner) (i : ℕ) (e : Piece) → k < length rs → i < length (get_or rs k d).pieces → (get_or (get_or rs k d).pieces i e).seg ≢ seg
unnamed rs seg none k d i e lt li is =
    grind (arith, pieces_of-there i (get_or rs k d).pieces e li, get_or-le-sum_by (λ (r : Runner). pieces_of seg r.pieces) rs k d lt, is, none)

-- an orphan destroyed
pub sweeps-destroyed : (rs : List Runner) (t : List Entry) (seg : ℕ) (s : Segment) → slice_get t (seg % 32768) ≡ Some (record { destroyed = seg / 32768; segment = Some s })
    → s.dest ≡ true → attach_count rs seg ≡ 0 → Sweeps rs t (destroyed t seg)
sweeps-destroyed rs t seg s there dest none =
    let x : Entry = record { destroyed = seg / 32768; segment = Some s } in
    let id : identifier (seg % 32768) (seg / 32768) ≡ seg = omega arith in
    let left : is_orphan rs (identifier (seg % 32768) (seg / 32768)) (Some s) ≡ true = rw (id, dest, none) refl in
    let pages = sum-set (λ (e : Entry). pages_held e.segment) t (seg % 32768) (record { destroyed = seg / 32768 + 1; segment = None }) x there in
    let locks = sum-set (λ (e : Entry). pages_locked e.segment) t (seg % 32768) (record { destroyed = seg / 32768 + 1; segment = None }) x there in
    record {
      swept = swept-destroyed rs t (seg % 32768) x there left;
      size = length-slice_set t (seg % 32768) (record { destroyed = seg / 32768 + 1; segment = None });
      reserved = omega (arith, pages);
      locked = omega (arith, locks);
      pieces = fit-table t (destroyed t seg) rs (λ k d i e lt li h. piece-kept t seg x there refl (get_or (get_or rs k d).pieces i e) (unnamed rs seg none k d i e lt li) h);
    }

-- a mark, and no piece
pub left-parts : (dest : Bool) (n : ℕ) → dest && (n == 0) ≡ true → (dest ≡ true) × (n ≡ 0)
left-parts dest n h = grind (arith, nat_tests)
