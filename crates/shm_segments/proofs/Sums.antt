-- Segments and pages counted over the rows.
use Rattle.shm_segments.proofs.Names.{◌≡◌, ℕ, suc, ◌+◌, ◌*◌, ◌<◌, ◌≤◌, false, List, [], ◌∷◌, length, Option, Some, None, refl, arith, sum_by-cons, sum_by-set, sum_by_push, sum_by_more, sum_by-take-le, get_or-le-sum_by, sum_by, take, unused, locked_by_user, pages_locked_by, locked_by_in_row, locked_by_of_rows, Segment, pages_of, reserved, locked, segment_count, Row, identifier, entry_at, with_row, without_row, row_count, option_map, flat_entry, flat_from, with_row-within, with_row-end, segment_count-flat, Held, bytes_of, Head, whole, joined_table, pages_in_row, locked_in_row, pages_of_rows, locked_of_rows, Agree, nat_tests, common_steps, FlatEntry, pages_held, pages_locked, Entry, live_row}
use Rattle.shm_segments.proofs.Joins.{at-live, held-as, live-at}
use Rattle.shm_segments.proofs.Edits.{with_other}
use Rattle.shm_segments.proofs.Rows.{IsFree}

-- THE TABLE'S SUMS

-- each row's bytes are those of its pages
abbrev AreWhole : ℕ → List Held → List (Entry Head) → Type 0
AreWhole n hs rows = (k : ℕ) (r : Row Head) → k < length rows → (entry_at rows k).row ≡ Some r → length (bytes_of hs (identifier (n + k) (entry_at rows k).destroyed)) ≡ 4096 * pages_of r.value.size

all-whole : (hs : List Held) (rows : List (Entry Head)) → Agree hs rows → AreWhole 0 hs rows
all-whole hs rows agree k r lt is = grind (arith, common_steps, held-as, at-live, agree.few)

rest-whole : (n : ℕ) (hs : List Held) (e : Entry Head) (es : List (Entry Head)) → AreWhole n hs (e ∷ es) → AreWhole (n + 1) hs es
rest-whole n hs e es all k r lt is = let next : n + suc k ≡ (n + 1) + k = omega arith in rw next at (all (suc k) r (omega arith) is)

first-whole : (n : ℕ) (hs : List Held) (e : Entry Head) (es : List (Entry Head)) → AreWhole n hs (e ∷ es) → (r : Row Head) → e.row ≡ Some r → length (bytes_of hs (identifier n e.destroyed)) ≡ 4096 * pages_of r.value.size
first-whole n hs e es all r is = let here : n + 0 ≡ n = omega arith in rw here at (all 0 r (omega arith) is)

row-pages : (hs : List Held) (id : ℕ) (o : Option (Row Head)) → ((r : Row Head) → o ≡ Some r → length (bytes_of hs id) ≡ 4096 * pages_of r.value.size) → pages_held (option_map (whole hs id) o) ≡ pages_in_row o
row-pages hs id o whole = grind (arith, common_steps, nat_tests, whole)

row-locked : (hs : List Held) (id : ℕ) (o : Option (Row Head)) → ((r : Row Head) → o ≡ Some r → length (bytes_of hs id) ≡ 4096 * pages_of r.value.size) → pages_locked (option_map (whole hs id) o) ≡ locked_in_row o
row-locked hs id o whole = grind (arith, common_steps, nat_tests, whole)

-- a sum over the segments is one over the rows
sum-from : (weigh : Option Segment → ℕ) (f : Option (Row Head) → ℕ) (hs : List Held) → ((id : ℕ) (o : Option (Row Head)) → ((r : Row Head) → o ≡ Some r → length (bytes_of hs id) ≡ 4096 * pages_of r.value.size) → weigh (option_map (whole hs id) o) ≡ f o)
    → (n : ℕ) (rows : List (Entry Head)) → AreWhole n hs rows → sum_by (λ (x : FlatEntry). weigh x.segment) (flat_from (whole hs) n rows) ≡ sum_by (λ (e : Entry Head). f e.row) rows
sum-from weigh f hs one n [] all = refl
sum-from weigh f hs one n (e ∷ es) all =
    let here = one (identifier n e.destroyed) e.row (first-whole n hs e es all) in
    let rest = sum-from weigh f hs one (n + 1) es (rest-whole n hs e es all) in
    let entry : FlatEntry = flat_entry (whole hs) n e in
    omega (arith, here, rest, sum_by-cons (λ (x : FlatEntry). weigh x.segment) entry (flat_from (whole hs) (n + 1) es), sum_by-cons (λ (x : Entry Head). f x.row) e es)

pub reserved-joined : (hs : List Held) (rows : List (Entry Head)) → Agree hs rows → reserved (joined_table hs rows) ≡ pages_of_rows rows
reserved-joined hs rows agree = sum-from pages_held pages_in_row hs (row-pages hs) 0 rows (all-whole hs rows agree)

pub locked-joined : (hs : List Held) (rows : List (Entry Head)) → Agree hs rows → locked (joined_table hs rows) ≡ locked_of_rows rows
locked-joined hs rows agree = sum-from pages_locked locked_in_row hs (row-locked hs) 0 rows (all-whole hs rows agree)

row-locked_by : (uid : ℕ) (hs : List Held) (id : ℕ) (o : Option (Row Head)) → ((r : Row Head) → o ≡ Some r → length (bytes_of hs id) ≡ 4096 * pages_of r.value.size)
    → pages_locked_by uid (option_map (whole hs id) o) ≡ locked_by_in_row uid o
row-locked_by uid hs id o whole = grind (arith, common_steps, nat_tests, whole)

pub locked_by-joined : (uid : ℕ) (hs : List Held) (rows : List (Entry Head)) → Agree hs rows → locked_by_user uid (joined_table hs rows) ≡ locked_by_of_rows uid rows
locked_by-joined uid hs rows agree = sum-from (pages_locked_by uid) (locked_by_in_row uid) hs (row-locked_by uid hs) 0 rows (all-whole hs rows agree)

-- the segments that one user locked are among the locked ones
locked_by-part : (uid : ℕ) (o : Option (Row Head)) → locked_by_in_row uid o ≤ locked_in_row o
locked_by-part uid o = grind (arith, nat_tests)

pub locked_by_more : (uid : ℕ) (rows : List (Entry Head)) (i : ℕ) → i < length rows → locked_by_of_rows uid (take (i + 1) rows) ≡ locked_by_of_rows uid (take i rows) + locked_by_in_row uid (entry_at rows i).row
locked_by_more uid rows i lt = sum_by_more (λ (e : Entry Head). locked_by_in_row uid e.row) rows i unused lt

pub locked_by-all : (uid : ℕ) (rows : List (Entry Head)) → locked_by_of_rows uid rows ≤ locked_of_rows rows
locked_by-all uid [] = omega arith
locked_by-all uid (e ∷ es) =
    omega (arith, locked_by-part uid e.row, locked_by-all uid es, sum_by-cons (λ (x : Entry Head). locked_by_in_row uid x.row) e es, sum_by-cons (λ (x : Entry Head). locked_in_row x.row) e es)

pub locked_by_more_le : (uid : ℕ) (rows : List (Entry Head)) (i : ℕ) → i < length rows → locked_by_of_rows uid (take i rows) + locked_by_in_row uid (entry_at rows i).row ≤ locked_of_rows rows
locked_by_more_le uid rows i lt =
    let more = locked_by_more uid rows i lt in
    omega (arith, more, sum_by-take-le (λ (e : Entry Head). locked_by_in_row uid e.row) rows (i + 1), locked_by-all uid rows)

-- no user has locked anything if nothing is locked
pub locked_by-none : (uid : ℕ) (rows : List (Entry Head)) → locked_of_rows rows ≡ 0 → locked_by_of_rows uid rows ≡ 0
locked_by-none uid rows none = omega (arith, locked_by-all uid rows, none)

pub segment_count-joined : (hs : List Held) (rows : List (Entry Head)) → segment_count (joined_table hs rows) ≡ row_count rows
segment_count-joined hs rows = segment_count-flat (whole hs) 0 rows

-- A ROW IS ADDED, CHANGED OR REMOVED

-- any sum over rows
module _ (f : Option (Row Head) → ℕ) (nothing : f None ≡ 0) where
  abbrev pub sum_of : List (Entry Head) → ℕ
  sum_of rows = sum_by (λ (e : Entry Head). f e.row) rows

  pub sum-with_row : (rows : List (Entry Head)) (i key : ℕ) (v : Head) → IsFree rows i → sum_of (with_row rows i key v) ≡ sum_of rows + f (Some (record { key = key; value = v }))
  sum-with_row rows i key v free = grind (arith, common_steps, sum_of, with_row-end, sum_by_push, free.within, sum_by-set, free.none, with_row-within)

  pub sum-without_row : (rows : List (Entry Head)) (i : ℕ) (r : Row Head) → i < length rows → (entry_at rows i).row ≡ Some r → sum_of (without_row rows i) + f (Some r) ≡ sum_of rows
  sum-without_row rows i r within there = grind (arith, common_steps, sum_by-set)

  pub sum-other : (rows : List (Entry Head)) (id : ℕ) (r s : Row Head) → live_row rows id ≡ Some r → sum_of (with_other rows id s) + f (Some r) ≡ sum_of rows + f (Some s)
  sum-other rows id r s there = grind (arith, common_steps, live-at, sum_by-set)

-- PAGES

pub pages-with_other : (rows : List (Entry Head)) (id : ℕ) (r s : Row Head) → live_row rows id ≡ Some r → s.value.size ≡ r.value.size → pages_of_rows (with_other rows id s) ≡ pages_of_rows rows
pages-with_other rows id r s there size = grind (arith, common_steps, sum-other)

-- LOCKED PAGES

pub locked-with_row : (rows : List (Entry Head)) (i key : ℕ) (v : Head) → IsFree rows i → v.locked ≡ false → locked_of_rows (with_row rows i key v) ≡ locked_of_rows rows
locked-with_row rows i key v free lock = grind (arith, common_steps, sum-with_row)

-- the same if size and lock are unchanged
pub locked-other_same : (rows : List (Entry Head)) (id : ℕ) (r s : Row Head) → live_row rows id ≡ Some r → s.value.size ≡ r.value.size → s.value.locked ≡ r.value.locked → locked_of_rows (with_other rows id s) ≡ locked_of_rows rows
locked-other_same rows id r s there size lock = grind (arith, common_steps, sum-other locked_in_row refl)

-- a locked segment's pages are among those of all locked ones, and these among all
pub locked-within : (rows : List (Entry Head)) (id : ℕ) (r : Row Head) → live_row rows id ≡ Some r → locked_in_row (Some r) ≤ locked_of_rows rows
locked-within rows id r there = grind (arith, common_steps, live-at, get_or-le-sum_by)
