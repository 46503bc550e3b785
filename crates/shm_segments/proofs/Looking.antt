-- What is found under an identifier, and the flat machine's answer about it.
use Rattle.shm_segments.proofs.Names.{common_steps, destroyed_at-flat, next_id, ◌≡◌, ◌≢◌, ℕ, pos, ℤ, ◌%◌, List, Option, Some, None, IsOk, refl, sym, ap, ◌∙◌, arith, Eidrm, Einval, bytes_at, Removed, Invalid, entry_at, key_at, find_key, index_of, look, flat_answer, flat_found, natural_of, look-flat, find_key-flat, find_key-look, free_index-flat, Held, bytes_of, Head, Found, segment_of, whole, joined_table, Agree, SizesFit, IsFound, look_of, refused_look, Ok, Err, is_some, option_map, Entry, Row, free_index, id_at, live_row}
use Rattle.shm_base.specs.Identifier as flat
use Rattle.shm_segments.proofs.Joins.{live-at}
use Rattle.shm_segments.proofs.Edits.{look-live}
use Rattle.shm_segments.proofs.Shown.{bytes_at-joined}
use Rattle.shm_segments.proofs.Finding.{found_at}

-- what is found under an identifier
abbrev pub found_under : List (Entry Head) → ℕ → Head → Found
found_under rows seg v = record { seg = seg; id = pos seg; key = key_at rows (seg % 32768); head = v }

pub found-looked : (hs : List Held) (rows : List (Entry Head)) (seg : ℕ) (v : Head) → Agree hs rows → SizesFit rows → look rows (pos seg) ≡ Ok v → IsFound (joined_table hs rows) (found_under rows seg v)
found-looked hs rows seg v agree sizes looked =
    let row : Row Head = record { key = key_at rows (seg % 32768); value = v } in
    let here = live-at rows seg row (look-live rows seg v looked) in
    rw here.own at (found_at hs rows (seg % 32768) row agree sizes here.there)

-- the flat machine finds it
pub look-found : (hs : List Held) (rows : List (Entry Head)) (seg : ℕ) (v : Head) → look rows (pos seg) ≡ Ok v → flat.look (joined_table hs rows) (pos seg) ≡ look_of (joined_table hs rows) (found_under rows seg v)
look-found hs rows seg v looked =
    let lives : live_row rows seg ≡ Some (record { key = key_at rows (seg % 32768); value = v }) = look-live rows seg v looked in
    let bytes : bytes_at (joined_table hs rows) seg ≡ bytes_of hs seg = bytes_at-joined hs rows seg (ap is_some lives) in
    look-flat (whole hs) rows (pos seg)
    ∙ ap (flat_answer (whole hs) (seg % 32768) seg (key_at rows (seg % 32768))) looked
    ∙ ap (λ (bs : List ℕ). flat.Found (seg % 32768) (segment_of (record { key = key_at rows (seg % 32768); value = v }) bs)) (sym bytes)

-- and it does not find what does not exist
pub look-removed : (hs : List Held) (rows : List (Entry Head)) (id : ℤ) → look rows id ≡ Err Removed → refused_look (flat.look (joined_table hs rows) id) ≡ Some Eidrm
look-removed hs rows id looked = ap refused_look (look-flat (whole hs) rows id ∙ ap (flat_answer (whole hs) (index_of id) (natural_of id) (key_at rows (index_of id))) looked)

pub look-invalid : (hs : List Held) (rows : List (Entry Head)) (id : ℤ) → look rows id ≡ Err Invalid → refused_look (flat.look (joined_table hs rows) id) ≡ Some Einval
look-invalid hs rows id looked = ap refused_look (look-flat (whole hs) rows id ∙ ap (flat_answer (whole hs) (index_of id) (natural_of id) (key_at rows (index_of id))) looked)

-- KEYS

pub key-none : (hs : List Held) (rows : List (Entry Head)) (key : ℕ) → key ≢ 0 → find_key rows key ≡ None → flat.find_key (joined_table hs rows) key ≡ flat.Invalid
key-none hs rows key some none = find_key-flat (whole hs) (λ id r. refl) rows key some ∙ ap (flat_found (whole hs) (entry_at rows)) none

pub key-some : (hs : List Held) (rows : List (Entry Head)) (key : ℕ) (id : ℤ) → key ≢ 0 → find_key rows key ≡ Some (index_of id) → IsOk (look rows id) → flat.find_key (joined_table hs rows) key ≡ flat.look (joined_table hs rows) id
key-some hs rows key id some found ok = find_key-look (whole hs) (λ n r. refl) rows key id some found ok

-- INDEXES

pub none-mapped : {X Y : Type 0} (f : X → Y) (o : Option X) → option_map f o ≡ None → o ≡ None
none-mapped f o is = grind arith

-- the next identifier is the one that the rows give
pub next-joined : (hs : List Held) (rows : List (Entry Head)) → next_id (joined_table hs rows) ≡ option_map (id_at rows) (free_index rows)
next-joined hs rows = rw (free_index-flat (whole hs) rows) (grind (arith, common_steps, destroyed_at-flat (whole hs) rows))

-- THE RESULT OF A LOOKUP

same-found : (rows : List (Entry Head)) (f : Found) → f.id ≡ pos f.seg → f.key ≡ key_at rows (f.seg % 32768) → found_under rows f.seg f.head ≡ f
same-found rows f id key = rw (sym id, sym key) refl

pub found-under : (hs : List Held) (rows : List (Entry Head)) (f : Found) (id : ℤ) → Agree hs rows → SizesFit rows → f.id ≡ id → pos f.seg ≡ id → f.key ≡ key_at rows (index_of id) → look rows id ≡ Ok f.head
    → IsFound (joined_table hs rows) f × (flat.look (joined_table hs rows) id ≡ look_of (joined_table hs rows) f)
found-under hs rows f id agree sizes is own key looked =
    let same = same-found rows f (is ∙ sym own) (rw (← own) at key) in
    let found : look rows (pos f.seg) ≡ Ok f.head = rw (← own) at looked in
    (rw same at (found-looked hs rows f.seg f.head agree sizes found), rw (← own) (look-found hs rows f.seg f.head found ∙ ap (look_of (joined_table hs rows)) same))
