-- What is kept where a segment is made.
use Rattle.shm_life.proofs.Names.{◌≡◌, ◌≢◌, ◌⊎◌, ℕ, zero, suc, pos, ℤ, ◌+◌, ◌*◌, ◌/◌, ◌%◌, ◌<◌, ◌≤◌, ◌&&◌, nat_lt, Bool, true, false, is_none, List, [], ◌∷◌, ◌++◌, length, get_or, replicate, Some, None, refl, sym, ap, ◌∙◌, inl, inr, arith, eq-eqb, ne_eqb, cases_eq, cases_Bool, cases_lt, lt-ltb, le-ltb, none-some, slice_get_past, slice_get-get_or, length-append, length-replicate, sum_by-append, sum_by-cons, Bounds, Segment, Piece, Entry, Runner, pages_of, identifier, free_from, free_index, destroyed_at, destroyed_in, with_segment, pages_held, pages_locked, reserved, locked, Head, segment_of, live, made, created, get-set_same, get-set_other, length-slice_set, sum-set, PieceFits, OrphansAmong, IsTableSound, nat_tests, pages_in, is_some, slice_get, slice_set, Option, option_map}
use Rattle.shm_life.proofs.Pieces.{fit-table}

-- WHAT STANDS AT A FREE INDEX

record FreeAt (i : ℕ) (es : List Entry) (j : ℕ) : Type 0 where
  k : ℕ
  at : i + k ≡ j
  within : k ≤ length es
  small : k ≡ length es → j < 32768
  none : (e : Entry) → slice_get es k ≡ Some e → e.segment ≡ None

is-none : (o : Option Segment) (b : Bool) → is_none o && b ≡ true → o ≡ None
is-none o b h = grind (arith, nat_tests)

free-at : (i : ℕ) (es : List Entry) (j : ℕ) → free_from i es ≡ Some j → FreeAt i es j
free-at i [] j found =
    elim (cases_lt i 32768) [
      | inl l ↦
          let is : i ≡ j = cc (rw (lt-ltb i 32768 l) at found) in
          record { k = 0; at = omega (arith, is); within = omega arith; small = λ _. omega (arith, is, l); none = λ e z. absurd (none-some e z) }
      | inr n ↦ absurd (none-some j (rw (le-ltb i 32768 n) at found))
    ]
free-at i (e ∷ es) j found =
    elim (cases_Bool (is_none e.segment && nat_lt e.destroyed 65536)) [
      | inl h ↦
          let is : i ≡ j = cc (rw h at found) in
          record {
            k = 0;
            at = omega (arith, is);
            within = omega arith;
            small = λ none. absurd (omega (arith, none));
            none = λ x z. let same : e ≡ x = cc z in rw (← same) (is-none e.segment (nat_lt e.destroyed 65536) h);
          }
      | inr h ↦
          let r = free-at (i + 1) es j (rw h at found) in
          record { k = suc r.k; at = omega (arith, r.at); within = omega (arith, r.within); small = λ end. r.small (omega (arith, end)); none = r.none }
    ]

pub record IsFree (t : List Entry) (i : ℕ) : Type 0 where
  pub within : i ≤ length t
  pub small : i ≡ length t → i < 32768
  pub none : (e : Entry) → slice_get t i ≡ Some e → e.segment ≡ None

pub is-free : (t : List Entry) (i : ℕ) → free_index t ≡ Some i → IsFree t i
is-free t i found = grind (arith, free-at 0 t i found)

-- THE TABLE WITH A SEGMENT MORE

get-last : (t : List Entry) (e : Entry) → slice_get (t ++ e ∷ []) (length t) ≡ Some e
get-last [] e = refl
get-last (x ∷ xs) e = get-last xs e

get-before : (t : List Entry) (e : Entry) (j : ℕ) → j ≢ length t → slice_get (t ++ e ∷ []) j ≡ slice_get t j
get-before [] e zero n = absurd (n refl)
get-before [] e (suc j) n = refl
get-before (x ∷ xs) e zero n = refl
get-before (x ∷ xs) e (suc j) n = get-before xs e j (λ z. n (ap suc z))

-- what a segment put at a free index leaves
pub record Added (t u : List Entry) (i : ℕ) (s : Segment) : Type 0 where
  size : (length u ≡ length t) ⊎ ((i ≡ length t) × (length u ≡ i + 1))
  pub here : slice_get u i ≡ Some (record { destroyed = destroyed_at t i; segment = Some s })
  pub others : (j : ℕ) → j ≢ i → slice_get u j ≡ slice_get t j
  pages : reserved u ≡ reserved t + pages_in s
  locks : locked u ≡ locked t + pages_locked (Some s)

pub added : (t : List Entry) (i : ℕ) (s : Segment) → IsFree t i → Added t (with_segment t i s) i s
added t i s free = by (cases_eq i (length t))
  where
    last : Entry
    last = record { destroyed = 0; segment = Some s }

    by : (i ≡ length t) ⊎ (i ≢ length t) → Added t (with_segment t i s) i s
    by (inl e) =
        let none : destroyed_at t i ≡ 0 = ap destroyed_in (slice_get_past t i (omega (arith, e))) in
        let is : with_segment t i s ≡ t ++ last ∷ [] = rw (eq-eqb i (length t) e) refl in
        let held = sum_by-append (λ (x : Entry). pages_held x.segment) t (last ∷ []) in
        let one = sum_by-cons (λ (x : Entry). pages_held x.segment) last [] in
        let held_locks = sum_by-append (λ (x : Entry). pages_locked x.segment) t (last ∷ []) in
        let one_lock = sum_by-cons (λ (x : Entry). pages_locked x.segment) last [] in
        rw is
        (record {
          size = inr (e, length-append t (last ∷ []) ∙ omega (arith, e));
          here = rw (none, e) (get-last t last);
          others = λ j n. get-before t last j (λ z. n (z ∙ sym e));
          pages = omega (arith, held, one);
          locks = omega (arith, held_locks, one_lock);
        })
    by (inr n) =
        let lt : i < length t = omega (arith, n, free.within) in
        let x = get_or t i last in
        let there = slice_get-get_or t i last lt in
        let empty : x.segment ≡ None = free.none x there in
        let put : Entry = record { destroyed = destroyed_at t i; segment = Some s } in
        let is : with_segment t i s ≡ slice_set t i put = rw (ne_eqb i (length t) n) refl in
        let held = sum-set (λ (y : Entry). pages_held y.segment) t i put x there in
        let held_locks = sum-set (λ (y : Entry). pages_locked y.segment) t i put x there in
        let zero_pages : pages_held x.segment ≡ 0 = ap pages_held empty in
        let zero_locks : pages_locked x.segment ≡ 0 = ap pages_locked empty in
        rw is
        (record {
          size = inl (length-slice_set t i put);
          here = get-set_same t i put x there;
          others = λ j m. get-set_other t i j put (λ z. m (sym z));
          pages = omega (arith, held, zero_pages);
          locks = omega (arith, held_locks, zero_locks);
        })

-- WHAT IS KEPT

module _ (t u : List Entry) (i : ℕ) (s : Segment) (a : Added t u i s) (free : IsFree t i) where
  -- what was live is live as before
  live-added : (id : ℕ) → is_some (live t id) ≡ true → live u id ≡ live t id
  live-added id lives = grind (arith, nat_tests, cases_eq (id % 32768) i, a.others (id % 32768), free.none)

  fits-added : (p : Piece) → PieceFits t p → PieceFits u p
  fits-added p h = let same = live-added p.seg h.0 in (rw same h.0, λ j lt. rw same (h.1 j lt))

  orphans-added : s.dest ≡ false → (rs : List Runner) → OrphansAmong [] rs t → OrphansAmong [] rs u
  orphans-added dest rs none = λ j h. grind (arith, nat_tests, cases_eq j i, a.here, a.others j, dest, none j, h)

  few-added : length t ≤ 32768 → length u ≤ 32768
  few-added few = grind (arith, a.size, free.small, few)

pages-zeros : (size : ℕ) → length {A = ℕ} (replicate (4096 * pages_of size) 0) / 4096 ≡ pages_of size
pages-zeros size = let long : length {A = ℕ} (replicate (4096 * pages_of size) 0) ≡ 4096 * pages_of size = length-replicate (4096 * pages_of size) 0 in rw long (omega arith)

-- a segment made
pub created-kept : (limits : Bounds) (t u : List Entry) (rs : List Runner) (key : ℕ) (h : Head) (id : ℤ) → IsTableSound limits t rs → made t key h ≡ Some (id, u)
    → reserved t + pages_of h.size ≤ limits.shmall → h.dest ≡ false → h.locked ≡ false → IsTableSound limits u rs
created-kept limits t u rs key h id k is room dest loose = by (free_index t) refl is
  where
    s : Segment
    s = segment_of (record { key = key; value = h }) (replicate (4096 * pages_of h.size) 0)

    kept : (i : ℕ) → IsFree t i → (v : List Entry) → Added t v i s → IsTableSound limits v rs
    kept i free v a =
        let few = pages-zeros h.size in
        let locks : pages_locked (Some s) ≡ 0 = rw loose refl in
        record {
          few = few-added t v i s a free k.few;
          reserved = omega (arith, a.pages, few, room);
          shmall = k.shmall;
          locked = omega (arith, a.locks, locks, k.locked);
          lockable = k.lockable;
          pieces = fit-table t v rs (λ n d j e lt li fit. fits-added t v i s a free (get_or (get_or rs n d).pieces j e) fit) k.pieces;
          processes = k.processes;
          orphans = orphans-added t v i s a free dest rs k.orphans;
        }

    by : (o : Option ℕ) → free_index t ≡ o → option_map {U = ℤ × List Entry} (λ i. (pos (identifier i (destroyed_at t i)), created t i key h)) o ≡ Some (id, u) → IsTableSound limits u rs
    by None found z = absurd (none-some _ z)
    by (Some i) found z =
        let free = is-free t i found in
        let pair : (pos (identifier i (destroyed_at t i)), created t i key h) ≡ (id, u) = cc z in
        let same : created t i key h ≡ u = ap (λ (p : ℤ × List Entry). p.1) pair in
        rw (← same) (kept i free (with_segment t i s) (added t i s free))
