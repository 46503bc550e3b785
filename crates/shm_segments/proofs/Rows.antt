-- Segments that are made and destroyed, as the flat machine's table shows them.
use Rattle.shm_segments.proofs.Names.{◌≡◌, ◌≢◌, ℕ, ◌+◌, ◌*◌, ◌%◌, ◌<◌, ◌≤◌, ◌==◌, if◌then◌else◌, false, List, length, Some, None, sym, ap, ◌∙◌, arith, inl, inr, length-set, cases_lt, cases_eq, length-replicate, pages_of, with_segment, Row, identifier, entry_at, with_row, without_row, at_set, at_set_other, at_row, at_row_other, with_row-few, free_found, identifier-mod, with_segment-flat, flat_table-make, Held, bytes_of, held_bytes, is_held, IsIndexFree, with_zeros, without, find-without_same, find-without_other, find-zeros_same, find-zeros_other, Head, segment_of, whole, joined_table, Agree, nat_tests, common_steps, replicate, is_some, option_map, slice_set, Entry, free_index, live_row}
use Rattle.shm_segments.proofs.Joins.{at-live, set-joined, same-held}

-- the identifier that an index has
abbrev pub id_of : List (Entry Head) → ℕ → ℕ
id_of rows i = identifier i (entry_at rows i).destroyed

-- no other identifier is live at an index
pub live-stale : (rows : List (Entry Head)) (i at : ℕ) → at % 32768 ≡ i → at ≢ id_of rows i → live_row rows at ≡ None
live-stale rows i at here other = grind (arith, nat_tests, here, other)

-- whether a segment is live depends only on its entry
live-entry : (rows gs : List (Entry Head)) (at : ℕ) → entry_at gs (at % 32768) ≡ entry_at rows (at % 32768) → live_row gs at ≡ live_row rows at
live-entry rows gs at same = ap (λ (e : Entry Head). if identifier (at % 32768) e.destroyed == at then e.row else None) same

-- DESTROYED

abbrev emptied : List (Entry Head) → ℕ → Entry Head
emptied rows i = record { destroyed = (entry_at rows i).destroyed + 1; row = None }

-- a row is destroyed, and its held segment is dropped
pub joined-without : (hs : List Held) (rows : List (Entry Head)) (i : ℕ) → length rows ≤ 32768 → i < 32768
    → joined_table (without hs (id_of rows i)) (without_row rows i) ≡ slice_set (joined_table hs rows) i (record { destroyed = (entry_at rows i).destroyed + 1; segment = None })
joined-without hs rows i few small =
    let id : ℕ = id_of rows i in
    let own : id % 32768 ≡ i = identifier-mod i (entry_at rows i).destroyed small in
    sym
    (set-joined hs (without hs id) rows i (record { destroyed = (entry_at rows i).destroyed + 1; row = None }) few
    (λ at other. ap held_bytes (find-without_other hs id at (λ is. other (ap (λ n. n % 32768) is ∙ own)))))

-- afterwards nothing is live at its index
pub live-without_here : (rows : List (Entry Head)) (i at : ℕ) → i < length rows → at % 32768 ≡ i → live_row (without_row rows i) at ≡ None
live-without_here rows i at within here = grind (arith, nat_tests, here, at_set rows i (emptied rows i) within)

pub live-without_other : (rows : List (Entry Head)) (i at : ℕ) → at % 32768 ≢ i → live_row (without_row rows i) at ≡ live_row rows at
live-without_other rows i at other = live-entry rows (without_row rows i) at (at_set_other rows i (at % 32768) (emptied rows i) other)

-- what was not destroyed is still live
pub live-without : (rows : List (Entry Head)) (i at : ℕ) → i < length rows → at ≢ id_of rows i → live_row (without_row rows i) at ≡ live_row rows at
live-without rows i at within apart = elim (cases_eq (at % 32768) i) [ inl here ↦ live-without_here rows i at within here ∙ sym (live-stale rows i at here apart) | inr other ↦ live-without_other rows i at other ]

pub agree-without : (hs : List Held) (rows : List (Entry Head)) (i : ℕ) → Agree hs rows → i < length rows → Agree (without hs (id_of rows i)) (without_row rows i)
agree-without hs rows i agree within =
    grind (arith, common_steps, length-set, identifier-mod, option_map, find-without_same, find-without_other)

-- CREATED

-- an index that a new segment can get
pub record IsFree (rows : List (Entry Head)) (i : ℕ) : Type 0 where
  pub within : i ≤ length rows
  pub small : i < 32768
  pub none : (entry_at rows i).row ≡ None

pub index-free : (rows : List (Entry Head)) (i : ℕ) → length rows ≤ 32768 → free_index rows ≡ Some i → IsFree rows i
index-free rows i few is =
    let f = free_found 0 i rows is in
    let same : f.place ≡ i = omega (arith, f.at) in
    record {
      within = omega (arith, f.within, same);
      small = elim (cases_lt f.place (length rows)) [ inl lt ↦ omega (arith, lt, few, same) | inr past ↦ f.small (omega (arith, f.within, past)) ];
      none = rw same at f.row;
    }

-- no segment is held under its identifier
pub free-new : (hs : List Held) (rows : List (Entry Head)) (i : ℕ) → Agree hs rows → IsFree rows i → is_held hs (id_of rows i) ≡ false
free-new hs rows i agree free = same-held hs rows (id_of rows i) agree ∙ ap is_some (at-live rows i free.small ∙ free.none)

-- nor under another of its index
pub free-index : (hs : List Held) (rows : List (Entry Head)) (i : ℕ) → Agree hs rows → IsFree rows i → IsIndexFree hs (id_of rows i)
free-index hs rows i agree free = λ other same. same-held hs rows other agree ∙ ap is_some (dead other same)
  where
    dead : (other : ℕ) → other % 32768 ≡ id_of rows i % 32768 → live_row rows other ≡ None
    dead other same =
        let at : other % 32768 ≡ i = same ∙ identifier-mod i (entry_at rows i).destroyed free.small in
        grind (arith, nat_tests, at, free.none)

-- the row is new, and zeros are held for it
pub joined-with_row : (hs : List Held) (rows : List (Entry Head)) (i key pages : ℕ) (v : Head) → Agree hs rows → IsFree rows i
    → joined_table (with_zeros hs (id_of rows i) pages) (with_row rows i key v)
    ≡ with_segment (joined_table hs rows) i (segment_of (record { key = key; value = v }) (replicate (4096 * pages) 0))
joined-with_row hs rows i key pages v agree free =
    sym (with_segment-flat (whole gs) rows i key v free.within) ∙ ap (λ t. with_segment t i (whole gs id row)) same ∙ ap (λ xs. with_segment (joined_table hs rows) i (segment_of row xs)) bytes
  where
    id : ℕ
    id = id_of rows i

    gs : List Held
    gs = with_zeros hs id pages

    row : Row Head
    row = record { key = key; value = v }

    bytes : bytes_of gs id ≡ replicate (4096 * pages) 0
    bytes = ap held_bytes (find-zeros_same hs id pages (free-new hs rows i agree free))

    same : joined_table gs rows ≡ joined_table hs rows
    same = flat_table-make (whole gs) (whole hs) rows (λ k r lt is.
        let d : ℕ = (entry_at rows k).destroyed in
        let ne : identifier k d ≢ id = λ e.
        let own : k ≡ i = sym (identifier-mod k d (omega (arith, lt, agree.few))) ∙ ap (λ n. n % 32768) e ∙ identifier-mod i (entry_at rows i).destroyed free.small in
        cc (rw own at is, free.none) in
        ap (λ xs. segment_of r xs) (ap held_bytes (find-zeros_other hs id pages (identifier k d) ne)))

-- what is live afterwards
pub live-with_row_same : (rows : List (Entry Head)) (i key : ℕ) (v : Head) → IsFree rows i → live_row (with_row rows i key v) (id_of rows i) ≡ Some (record { key = key; value = v })
live-with_row_same rows i key v free = grind (arith, common_steps, id_of, identifier-mod, free.small, at_row, free.within)

pub live-with_row_other : (rows : List (Entry Head)) (i at key : ℕ) (v : Head) → IsFree rows i → at ≢ id_of rows i → live_row (with_row rows i key v) at ≡ live_row rows at
live-with_row_other rows i at key v free apart = grind (arith, common_steps, at_row, free.within, at_row_other)

pub agree-with_row : (hs : List Held) (rows : List (Entry Head)) (i key pages : ℕ) (v : Head) → Agree hs rows → IsFree rows i → v.locked ≡ false → pages ≡ pages_of v.size
    → Agree (with_zeros hs (id_of rows i) pages) (with_row rows i key v)
agree-with_row hs rows i key pages v agree free lock size =
    grind (arith, common_steps, with_row-few, length-replicate, option_map, find-zeros_same, find-zeros_other, live-with_row_other)
