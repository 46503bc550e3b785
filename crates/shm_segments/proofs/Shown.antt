-- Loads and stores over spans, as the flat machine's table shows them.
use Rattle.shm_segments.proofs.Names.{◌≡◌, ℕ, zero, suc, ◌+◌, ◌%◌, ◌≤◌, Bool, true, List, [], ◌∷◌, ◌++◌, length, set, map, Option, Some, refl, sym, ap, ◌∙◌, arith, nat_tests, common_steps, set-get_or, sum_by, All, Place, set_in, with_byte, entry_byte_set, stored, loaded, bytes_at, Span, identifier, unused, entry_at, flat_entry, at-table, run, span_places, Held, bytes_of, pasted, written, FitsPage, read_from, find_held-id, find-map, Head, segment_of, whole, joined_table, Agree, is_some, slice_index, slice_set, Entry, live_row}
use Rattle.shm_segments.proofs.Bytes.{put, puts, get, bytes_of-put_same, bytes_of-put_other, Each, each, written-keeps, len_of, written-same, get-spans}
use Rattle.shm_segments.proofs.Joins.{live-at, joined-same, set-joined, same-held}

-- A LIVE SEGMENT'S BYTES

some-is : {X : Type 0} (o : Option X) → is_some o ≡ true → (x : X) × (o ≡ Some x)
some-is o e = grind (arith, common_steps, nat_tests)

-- a byte set
pub with_byte-joined : (hs : List Held) (rows : List (Entry Head)) (p : Place) (b : ℕ) → length rows ≤ 32768 → is_some (live_row rows p.seg) ≡ true → with_byte (joined_table hs rows) p b ≡ joined_table (put hs p b) rows
with_byte-joined hs rows p b few there =
    let row = some-is (live_row rows p.seg) there in
    let l = live-at rows p.seg row.0 row.1 in
    let i : ℕ = p.seg % 32768 in
    let e : Entry Head = entry_at rows i in
    let id : ℕ = identifier i e.destroyed in
    let gs : List Held = put hs p b in
    let bytes : set (bytes_of hs id) p.at b ≡ bytes_of gs id = rw l.own (sym (bytes_of-put_same hs p b)) in
    let changed : entry_byte_set p.at b (flat_entry (whole hs) i e) ≡ flat_entry (whole gs) i e =
    rw l.there (ap (λ xs. record { destroyed = e.destroyed; segment = Some (segment_of row.0 xs) }) bytes) in
    ap (set_in (joined_table hs rows) i (entry_byte_set p.at b)) (at-table (whole hs) i rows l.within)
    ∙ ap (slice_set (joined_table hs rows) i) changed
    ∙ set-joined hs gs rows i e few (λ at other. bytes_of-put_other hs p b at (λ is. other (ap (λ n. n % 32768) is)))
    ∙ ap (joined_table gs) (set-get_or rows i unused)

-- the bytes of a segment
pub bytes_at-joined : (hs : List Held) (rows : List (Entry Head)) (id : ℕ) → is_some (live_row rows id) ≡ true → bytes_at (joined_table hs rows) id ≡ bytes_of hs id
bytes_at-joined hs rows id there = grind (arith, common_steps, some-is, live-at, at-table)

-- PLACE BY PLACE

abbrev AreLive : List (Entry Head) → List Place → Type 0
AreLive rows ps = Each (λ (p : Place). is_some (live_row rows p.seg) ≡ true) ps

stored-joined : (ps : List Place) (bs : List ℕ) (hs : List Held) (rows : List (Entry Head)) → length rows ≤ 32768 → AreLive rows ps → stored (joined_table hs rows) ps bs ≡ joined_table (puts hs ps bs) rows
stored-joined [] bs hs rows few h = refl
stored-joined (p ∷ ps) [] hs rows few h = refl
stored-joined (p ∷ ps) (b ∷ bs) hs rows few h = ap (λ t. stored t ps bs) (with_byte-joined hs rows p b few h.0) ∙ stored-joined ps bs (put hs p b) rows few h.1

loaded-joined : (ps : List Place) (hs : List Held) (rows : List (Entry Head)) → AreLive rows ps → loaded (joined_table hs rows) ps ≡ map (get hs) ps
loaded-joined [] hs rows h = refl
loaded-joined (p ∷ ps) hs rows h = ap (λ xs. slice_index xs p.at ∷ loaded (joined_table hs rows) ps) (bytes_at-joined hs rows p.seg h.0) ∙ ap (λ xs. get hs p ∷ xs) (loaded-joined ps hs rows h.1)

live-run : (n seg at : ℕ) (w : Bool) (rows : List (Entry Head)) → is_some (live_row rows seg) ≡ true → AreLive rows (run seg at n w)
live-run zero seg at w rows h = tt
live-run (suc n) seg at w rows h = (h, live-run n seg (at + 1) w rows h)

live-append : (ps qs : List Place) (rows : List (Entry Head)) → AreLive rows ps → AreLive rows qs → AreLive rows (ps ++ qs)
live-append [] qs rows a b = b
live-append (p ∷ ps) qs rows a b = (a.0, live-append ps qs rows a.1 b)

-- SPAN BY SPAN

-- spans that fit are in live segments
live-spans : (ps : List Span) (w : Bool) (hs : List Held) (rows : List (Entry Head)) → Agree hs rows → Each (FitsPage hs) ps → AreLive rows (span_places w ps)
live-spans [] w hs rows agree h = tt
live-spans (p ∷ ps) w hs rows agree h =
    live-append (run p.seg p.at p.len w) (span_places w ps) rows
    (live-run p.len p.seg p.at w rows (sym (same-held hs rows p.seg agree) ∙ h.0.0))
    (live-spans ps w hs rows agree h.1)

-- a store changes the table's bytes at the places
pub store_shown : (hs : List Held) (rows : List (Entry Head)) (w : Bool) (ps : List Span) (new : List ℕ) → Agree hs rows → All (FitsPage hs) ps → sum_by len_of ps ≡ length new
    → stored (joined_table hs rows) (span_places w ps) new ≡ joined_table (written hs ps new) rows
store_shown hs rows w ps new agree fit size =
    let fits = each (FitsPage hs) ps fit in
    stored-joined (span_places w ps) new hs rows agree.few (live-spans ps w hs rows agree fits)
    ∙ sym (joined-same (puts hs (span_places w ps) new) (written hs ps new) rows (written-same ps w hs new fits size))

-- a load gives the table's bytes at the places
pub load_shown : (hs : List Held) (rows : List (Entry Head)) (w : Bool) (ps : List Span) → Agree hs rows → All (FitsPage hs) ps
    → loaded (joined_table hs rows) (span_places w ps) ≡ read_from hs ps
load_shown hs rows w ps agree fit = let fits = each (FitsPage hs) ps fit in loaded-joined (span_places w ps) hs rows (live-spans ps w hs rows agree fits) ∙ get-spans ps w hs fits

-- AFTER A STORE

pub agree-pasted : (hs : List Held) (rows : List (Entry Head)) (p : Span) (new : List ℕ) → Agree hs rows → FitsPage hs p → length new ≤ p.len → Agree (map (pasted p.seg p.at new) hs) rows
agree-pasted hs rows p new agree fit few = grind (arith, common_steps, find-map, find_held-id)

-- rows and held segments still agree
pub agree-written : (hs : List Held) (rows : List (Entry Head)) (ps : List Span) (new : List ℕ) → Agree hs rows → All (FitsPage hs) ps → Agree (written hs ps new) rows
agree-written hs rows ps new agree fit =
    written-keeps (λ gs. Agree gs rows) (λ gs p bs here fits few. agree-pasted gs rows p bs here fits few) ps hs new agree (each (FitsPage hs) ps fit)
