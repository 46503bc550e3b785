-- The rows and the flat machine's table: what is live, what agrees, and what an edit shows.
use Rattle.shm_segments.proofs.Names.{◌≡◌, ◌≢◌, ℕ, zero, suc, ◌+◌, ◌*◌, ◌%◌, ◌<◌, ◌≤◌, true, List, [], ◌∷◌, length, set, Option, Some, refl, sym, ap, ◌∙◌, arith, nat_tests, Segment, pages_of, Row, identifier, entry_at, flat_entry, flat_from, at_past, identifier-mod, flat_from-make, flat_table-make, Held, find_held, bytes_of, is_held, Head, segment_of, whole, joined_table, Agree, common_steps, is_some, option_map, slice_set, Entry, live_row}
use Rattle.shm_segments.proofs.Bytes.{SameBytes}

-- WHAT IS LIVE

-- the entry at the index of a live identifier
pub record LiveAt (rows : List (Entry Head)) (id : ℕ) (r : Row Head) : Type 0 where
  pub within : id % 32768 < length rows
  pub there : (entry_at rows (id % 32768)).row ≡ Some r
  pub own : identifier (id % 32768) (entry_at rows (id % 32768)).destroyed ≡ id

pub live-at : (rows : List (Entry Head)) (id : ℕ) (r : Row Head) → live_row rows id ≡ Some r → LiveAt rows id r
live-at rows id r is = grind (arith, nat_tests, at_past rows (id % 32768), is)

-- the row at an index is live under its identifier
pub at-live : (rows : List (Entry Head)) (i : ℕ) → i < 32768 → live_row rows (identifier i (entry_at rows i).destroyed) ≡ (entry_at rows i).row
at-live rows i small = grind (arith, common_steps, identifier-mod)

-- THE TABLE SEES ONLY BYTES

whole-same : (hs gs : List Held) (id : ℕ) (r : Row Head) → bytes_of gs id ≡ bytes_of hs id → whole gs id r ≡ whole hs id r
whole-same hs gs id r e = ap (segment_of r) e

row-same : (hs gs : List Held) (id : ℕ) (o : Option (Row Head)) → bytes_of gs id ≡ bytes_of hs id → option_map (whole gs id) o ≡ option_map (whole hs id) o
row-same hs gs id o e = grind (arith, e)

entry-same : (hs gs : List Held) (i : ℕ) (e : Entry Head) → bytes_of gs (identifier i e.destroyed) ≡ bytes_of hs (identifier i e.destroyed) → flat_entry (whole gs) i e ≡ flat_entry (whole hs) i e
entry-same hs gs i e same = ap (λ (s : Option Segment). record { destroyed = e.destroyed; segment = s }) (row-same hs gs (identifier i e.destroyed) e.row same)

pub joined-same : (hs gs : List Held) (rows : List (Entry Head)) → SameBytes hs gs → joined_table gs rows ≡ joined_table hs rows
joined-same hs gs rows same = flat_table-make (whole gs) (whole hs) rows (λ k r lt is. whole-same hs gs (identifier k (entry_at rows k).destroyed) r (same (identifier k (entry_at rows k).destroyed)))

-- ONE ENTRY AND WHAT IS HELD UNDER ITS IDENTIFIER

set-from : (n k : ℕ) (hs gs : List Held) (t : List (Entry Head)) (x : Entry Head)
    → ((j d : ℕ) → j < length t → j ≢ k → bytes_of gs (identifier (n + j) d) ≡ bytes_of hs (identifier (n + j) d))
    → slice_set (flat_from (whole hs) n t) k (flat_entry (whole gs) (n + k) x) ≡ flat_from (whole gs) n (set t k x)
set-from n k hs gs [] x same = refl
set-from n zero hs gs (e ∷ es) x same =
    let here : n + zero ≡ n = omega arith in
    let rest : flat_from (whole hs) (n + 1) es ≡ flat_from (whole gs) (n + 1) es =
    flat_from-make (whole hs) (whole gs) (n + 1) es
    (λ k r lt is.
    let next : n + suc k ≡ (n + 1) + k = omega arith in
    let d : ℕ = (entry_at es k).destroyed in
    sym (whole-same hs gs (identifier ((n + 1) + k) d) r (rw next at (same (suc k) d (omega arith) (omega arith))))) in
    rw (here, rest) refl
set-from n (suc k) hs gs (e ∷ es) x same =
    let here : n + 0 ≡ n = omega arith in
    let next : n + suc k ≡ (n + 1) + k = omega arith in
    let first : flat_entry (whole gs) n e ≡ flat_entry (whole hs) n e = entry-same hs gs n e (rw here at (same 0 e.destroyed (omega arith) (omega arith))) in
    let rest : slice_set (flat_from (whole hs) (n + 1) es) k (flat_entry (whole gs) ((n + 1) + k) x) ≡ flat_from (whole gs) (n + 1) (set es k x) =
    set-from (n + 1) k hs gs es x
    (λ j d lt other. let after : n + suc j ≡ (n + 1) + j = omega arith in rw after at (same (suc j) d (omega arith) (omega arith))) in
    rw (next, first, rest) refl

-- an entry is set, and held segments change only under identifiers of its index
pub set-joined : (hs gs : List Held) (rows : List (Entry Head)) (i : ℕ) (x : Entry Head) → length rows ≤ 32768
    → ((id : ℕ) → id % 32768 ≢ i → bytes_of gs id ≡ bytes_of hs id)
    → slice_set (joined_table hs rows) i (flat_entry (whole gs) i x) ≡ joined_table gs (set rows i x)
set-joined hs gs rows i x few same =
    let here : 0 + i ≡ i = omega arith in
    rw here at
    (set-from 0 i hs gs rows x
    (λ j d lt other.
    let own : identifier (0 + j) d % 32768 ≡ j = omega (arith, lt, few) in
    same (identifier (0 + j) d) (λ is. other (sym own ∙ is))))

-- WHAT AGREES

pub same-held : (hs : List Held) (rows : List (Entry Head)) (id : ℕ) → Agree hs rows → is_held hs id ≡ is_some (live_row rows id)
same-held hs rows id agree = grind (arith, nat_tests, agree.same id)

-- the held segment of a live row
pub record HeldAs (hs : List Held) (id : ℕ) (r : Row Head) : Type 0 where
  pub g : Held
  pub is : find_held hs id ≡ Some g
  pub locked : g.locked ≡ r.value.locked
  pub long : length g.bytes ≡ 4096 * pages_of r.value.size
  pub held : is_held hs id ≡ true
  pub size : length (bytes_of hs id) ≡ 4096 * pages_of r.value.size

pub held-as : (hs : List Held) (rows : List (Entry Head)) (id : ℕ) (r : Row Head) → Agree hs rows → live_row rows id ≡ Some r → HeldAs hs id r
held-as hs rows id r agree there = grind (arith, common_steps, agree.same, option_map, is_some)
