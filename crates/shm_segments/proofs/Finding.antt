-- A row of the table is a segment that was found.
use Rattle.shm_segments.proofs.Names.{live_looked, with_value, StoreView, held, is_held, Ok, IsOk, look, look-entry, ◌≡◌, ℕ, pos, ◌/◌, ◌%◌, ◌<◌, List, length, slice_get, Option, Some, None, ℤ, ◌==◌, true, if◌then◌else◌, refl, ap, ◌∙◌, arith, cases_lt, none-some, bytes_at, bytes_at_entry, Row, entry_at, identifier, flat_entry, row_shown, row_listed, at_past, at-table, past-flat, Held, bytes_of, Head, Found, segment_of, whole, joined_table, Agree, SizesFit, IsFound, segment_seen, nat_tests, common_steps, is_some, option_map, FlatEntry, Entry, live_row}
use Rattle.shm_segments.proofs.Joins.{at-live, held-as, same-held}
use Rattle.shm_segments.specs.Table as table

pub index-of : (i d : ℕ) → i < 32768 → identifier i d % 32768 ≡ i
index-of i d lt = omega (arith, lt)

pub sequence-of : (i d : ℕ) → i < 32768 → identifier i d / 32768 ≡ d
sequence-of i d lt = omega (arith, lt)

-- a row is within the table
pub row-within : (rows : List (Entry Head)) (i : ℕ) (r : Row Head) → (entry_at rows i).row ≡ Some r → i < length rows
row-within rows i r is = grind (arith, at_past rows i, is)

-- the flat table's entry at its index
pub at-row : (hs : List Held) (rows : List (Entry Head)) (i : ℕ) (r : Row Head) → (entry_at rows i).row ≡ Some r
    → slice_get (joined_table hs rows) i ≡ Some (record { destroyed = (entry_at rows i).destroyed; segment = Some (whole hs (identifier i (entry_at rows i).destroyed) r) })
at-row hs rows i r is = grind (arith, common_steps, at-table, row-within)

pub found_at : (hs : List Held) (rows : List (Entry Head)) (i : ℕ) (r : Row Head) → Agree hs rows → SizesFit rows → (entry_at rows i).row ≡ Some r
    → IsFound (joined_table hs rows) (record { seg = identifier i (entry_at rows i).destroyed; id = pos (identifier i (entry_at rows i).destroyed); key = r.key; head = r.value })
found_at hs rows i r agree sizes is =
    let d = (entry_at rows i).destroyed in
    let within = row-within rows i r is in
    let small : i < 32768 = omega (arith, within, agree.few) in
    let own : identifier i d % 32768 ≡ i = index-of i d small in
    let sequence : identifier i d / 32768 ≡ d = sequence-of i d small in
    let there = at-row hs rows i r is in
    let bytes : bytes_at (joined_table hs rows) (identifier i d) ≡ bytes_of hs (identifier i d) =
    ap (λ k. bytes_at_entry (slice_get (joined_table hs rows) k)) own ∙ ap bytes_at_entry there in
    let lives : live_row rows (identifier i d) ≡ Some r = at-live rows i small ∙ is in
    record {
      entry = grind (arith, common_steps, slice_get, d, pos, own, there, sequence, bytes);
      id = refl;
      long = ap length bytes ∙ (held-as hs rows (identifier i d) r agree lives).size;
      size = sizes (identifier i d) r lives;
    }
  where
    shown : {d q : ℕ} {bs cs : List ℕ} → q ≡ d → bs ≡ cs → ◌≡◌ {A = FlatEntry} (record { destroyed = d; segment = Some (segment_of r cs) }) (record { destroyed = q; segment = Some (segment_of r bs) })
    shown e f = rw (e, f) refl

listed : (i d : ℕ) (o : Option (Row Head)) (x : ℤ × (ℕ × Head)) → row_shown i d o ≡ Some x → (o ≡ Some (record { key = x.1.0; value = x.1.1 })) × (x.0 ≡ pos (identifier i d))
listed i d o x is = grind (arith, common_steps, nat_tests, none-some, pos, identifier)

-- a row that is listed is at its index
pub listed-row : (i : ℕ) (e : Entry Head) (x : ℤ × (ℕ × Head)) → row_listed i e ≡ Some x
    → (e.row ≡ Some (record { key = x.1.0; value = x.1.1 })) × (x.0 ≡ pos (identifier i e.destroyed))
listed-row i e x is = listed i e.destroyed e.row x is

unlisted : (i d : ℕ) (o : Option (Row Head)) → row_shown i d o ≡ None → o ≡ None
unlisted i d o is = grind arith

pub unlisted-row : (i : ℕ) (e : Entry Head) → row_listed i e ≡ None → e.row ≡ None
unlisted-row i e is = unlisted i e.destroyed e.row is

in-flat : (hs : List Held) (i id : ℕ) (e : Entry Head) → i ≡ id % 32768
    → table.live_in id (Some (flat_entry (whole hs) i e)) ≡ option_map (whole hs id) (if identifier i e.destroyed == id then e.row else None)
in-flat hs i id e own = grind (arith, nat_tests, own)

-- what is live in the flat table
pub live-joined : (hs : List Held) (rows : List (Entry Head)) (id : ℕ) → table.live (joined_table hs rows) id ≡ option_map (whole hs id) (live_row rows id)
live-joined hs rows id = grind (arith, common_steps, at-table, in-flat, past-flat, at_past)

pub is_live-row : (hs : List Held) (rows : List (Entry Head)) (id : ℕ) → table.IsLive (joined_table hs rows) id → is_some (live_row rows id) ≡ true
is_live-row hs rows id is = grind (arith, live-joined hs rows id, is)

-- its row is found under its identifier
pub is_live-look : (hs : List Held) (rows : List (Entry Head)) (id : ℕ) → table.IsLive (joined_table hs rows) id → IsOk (look rows (pos id))
is_live-look hs rows id is = let lives = is_live-row hs rows id is in grind (arith, common_steps, look-entry, lives)

-- and still so after its value changed
pub look-with_value : (rows : List (Entry Head)) (id : ℕ) (v w : Head) → look rows (pos id) ≡ Ok v → IsOk (look (with_value rows (id % 32768) w) (pos id))
look-with_value rows id v w looked = let l = live_looked rows id v looked in grind (arith, common_steps, look-entry, l.within, l.there, l.own)

-- it is held
pub live-held : (m : StoreView) (rows : List (Entry Head)) (id : ℕ) → Agree (held m) rows → table.IsLive (joined_table (held m) rows) id → is_held (held m) id ≡ true
live-held m rows id agree is = same-held (held m) rows id agree ∙ is_live-row (held m) rows id is

-- WHAT IS NOT LIVE

pub live-found : (t : List FlatEntry) (f : Found) → IsFound t f → table.live t f.seg ≡ Some (segment_seen t f)
live-found t f found = grind (arith, common_steps, table.live_in, found.entry)

-- an index without a row has no segment
pub none-at : (hs : List Held) (rows : List (Entry Head)) (i : ℕ) → (entry_at rows i).row ≡ None → table.segment_in (slice_get (joined_table hs rows) i) ≡ None
none-at hs rows i none = grind (arith, cases_lt i (length rows), at-table (whole hs) i rows, past-flat (whole hs) 0 i rows, none)
