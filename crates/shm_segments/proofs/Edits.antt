-- Rows that change, as the flat machine's table shows them.
use Rattle.shm_segments.proofs.Names.{◌≡◌, ◌≢◌, ℕ, ◌*◌, ◌%◌, Bool, pos, List, [], ◌∷◌, set, Some, refl, sym, ap, ◌∙◌, arith, length-set, nat_tests, Segment, pages_of, change, Row, entry_at, key_at, look, with_value, with_key, at_set, at_set_other, with_key-with_value, live_looked, change-flat, Held, find_held, with_lock, bytes_of-lock, Head, whole, joined_table, Shape, shape_held, shape_row, Agree, common_steps, option_map, Ok, Entry, live_row}
use Rattle.shm_segments.proofs.Joins.{live-at, joined-same}

-- LOOKED UP

-- what is found under an identifier is live
pub look-live : (rows : List (Entry Head)) (id : ℕ) (v : Head) → look rows (pos id) ≡ Ok v → live_row rows id ≡ Some (record { key = key_at rows (id % 32768); value = v })
look-live rows id v looked = grind (arith, common_steps, live_looked)

-- A ROW CHANGED

-- the table with another row under an identifier
abbrev pub with_other : List (Entry Head) → ℕ → Row Head → List (Entry Head)
with_other rows id s = set rows (id % 32768) (record (entry_at rows (id % 32768)) { row = Some s })

-- another value, another key, or both, make another row
pub other-value : (rows : List (Entry Head)) (id : ℕ) (r : Row Head) (v : Head) → live_row rows id ≡ Some r → with_value rows (id % 32768) v ≡ with_other rows id (record r { value = v })
other-value rows id r v there = grind (arith, common_steps, live-at)

pub other-both : (rows : List (Entry Head)) (id : ℕ) (r : Row Head) (key : ℕ) (v : Head) → live_row rows id ≡ Some r
    → with_key (with_value rows (id % 32768) v) (id % 32768) key ≡ with_other rows id (record { key = key; value = v })
other-both rows id r key v there =
    let l = live-at rows id r there in
    with_key-with_value rows (id % 32768) key r v l.within l.there

-- the table is changed by f, if f makes the new segment of the old one
pub joined-other : (hs : List Held) (rows : List (Entry Head)) (id : ℕ) (r s : Row Head) (f : Segment → Segment) → live_row rows id ≡ Some r
    → f (whole hs id r) ≡ whole hs id s → joined_table hs (with_other rows id s) ≡ change (joined_table hs rows) id f
joined-other hs rows id r s f there same =
    let l = live-at rows id r there in
    sym (change-flat (whole hs) rows id f r s l.within l.there (rw l.own same))

-- what is live afterwards
pub live-other_same : (rows : List (Entry Head)) (id : ℕ) (r s : Row Head) → live_row rows id ≡ Some r → live_row (with_other rows id s) id ≡ Some s
live-other_same rows id r s there = grind (arith, common_steps, live-at, at_set, s)

pub live-other : (rows : List (Entry Head)) (id at : ℕ) (r s : Row Head) → live_row rows id ≡ Some r → at ≢ id → live_row (with_other rows id s) at ≡ live_row rows at
live-other rows id at r s there apart = grind (arith, common_steps, live-at, s, at_set, at_set_other)

-- a row of the same lock and pages
pub agree-other : (hs : List Held) (rows : List (Entry Head)) (id : ℕ) (r s : Row Head) → Agree hs rows → live_row rows id ≡ Some r → shape_row s ≡ shape_row r → Agree hs (with_other rows id s)
agree-other hs rows id r s agree there same = grind (arith, common_steps, agree.few, s, agree.same, option_map, with_other, live-other_same, live-other)

-- A LOCK SET

-- the table shows the row's lock, not the store's
pub joined-lock : (hs : List Held) (rows : List (Entry Head)) (id : ℕ) (b : Bool) → joined_table (with_lock hs id b) rows ≡ joined_table hs rows
joined-lock hs rows id b = joined-same hs (with_lock hs id b) rows (λ at. bytes_of-lock hs id b at)

abbrev relock : Bool → Shape → Shape
relock b s = record s { locked = b }

shape-lock_same : (hs : List Held) (id : ℕ) (b : Bool) → option_map shape_held (find_held (with_lock hs id b) id) ≡ option_map (relock b) (option_map shape_held (find_held hs id))
shape-lock_same [] id b = refl
shape-lock_same (g ∷ gs) id b = grind (arith, nat_tests, shape-lock_same gs id b)

shape-lock_other : (hs : List Held) (id : ℕ) (b : Bool) (at : ℕ) → at ≢ id → option_map shape_held (find_held (with_lock hs id b) at) ≡ option_map shape_held (find_held hs at)
shape-lock_other [] id b at apart = refl
shape-lock_other (g ∷ gs) id b at apart = grind (arith, nat_tests, shape-lock_other gs id b at apart)

-- a row and its held segment are locked or unlocked together
pub agree-lock : (hs : List Held) (rows : List (Entry Head)) (id : ℕ) (r : Row Head) (v : Head) → Agree hs rows → live_row rows id ≡ Some r → v.size ≡ r.value.size
    → Agree (with_lock hs id v.locked) (with_other rows id (record r { value = v }))
agree-lock hs rows id r v agree there size = record {
  few = omega (arith, agree.few, length-set rows (id % 32768) (record (entry_at rows (id % 32768)) { row = Some s }));
  same = shown;
}
  where
    s : Row Head
    s = record r { value = v }

    relocked_row : relock v.locked (shape_row r) ≡ shape_row s
    relocked_row = ap (λ n. record { locked = v.locked; size = 4096 * pages_of n }) (sym size)

    shown : (at : ℕ) → option_map shape_held (find_held (with_lock hs id v.locked) at) ≡ option_map shape_row (live_row (with_other rows id s) at)
    shown at = grind (arith, common_steps, shape-lock_same, v.locked, option_map, relock, agree.same, relocked_row, live-other_same, s, shape-lock_other, live-other)

pub joined-locked : (hs : List Held) (rows : List (Entry Head)) (id : ℕ) (r : Row Head) (v : Head) (f : Segment → Segment) → live_row rows id ≡ Some r
    → f (whole hs id r) ≡ whole hs id (record r { value = v }) → joined_table (with_lock hs id v.locked) (with_other rows id (record r { value = v })) ≡ change (joined_table hs rows) id f
joined-locked hs rows id r v f there same = joined-lock hs (with_other rows id (record r { value = v })) id v.locked ∙ joined-other hs rows id r (record r { value = v }) f there same
