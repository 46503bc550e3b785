-- What holds after a segment is made, destroyed, locked or written.
use Rattle.shm_segments.proofs.Names.{locked_in_row, pages_in_row, ◌≡◌, ◌≢◌, ◌⊎◌, ℕ, pos, ℤ, ◌+◌, ◌-◌, ◌/◌, ◌%◌, ◌<◌, ◌≤◌, Bool, false, if◌then◌else◌, List, Option, Some, None, refl, sym, ap, ◌∙◌, inl, inr, arith, cases_eq, none-some, pages_of, change, Row, entry_at, identifier, key_at, look, with_value, with_row, without_row, free_index-flat, destroyed_at-flat, Held, find_held, is_held, IsIndexFree, held_pages, pages_if_locked, with_zeros, without, with_lock, apart-zeros, apart-without, apart-lock, Head, joined_table, Agree, SizesFit, AreSegmentsSound, made, created, destroyed, nat_tests, common_steps, slice_set, Ok, option_map, Entry, free_index, id_at, live_row, relocked, relocked_head, is_some, Segment, segment_of, bytes_of, MOST_SHMMAX, MOST_SHMALL}
use Rattle.shm_base.specs.Identifier as flat
use Rattle.shm_segments.proofs.Joins.{LiveAt, live-at, held-as}
use Rattle.shm_segments.proofs.Edits.{look-live, other-value, agree-lock, joined-locked}
use Rattle.shm_segments.proofs.Rows.{id_of, IsFree, index-free, free-index, free-new, joined-with_row, live-with_row_same, live-with_row_other, agree-with_row, joined-without, live-without, live-without_here, agree-without}
use Rattle.shm_segments.proofs.Sums.{sum-with_row, sum-without_row, sum-other, pages-with_other, locked-with_row, locked-within}
use Rattle.shm_segments.proofs.Keeping.{KeptAs, sizes-other}
use Rattle.shm_segments.proofs.Held.{pages-zeros, locks-zeros, sum-without, pages-lock, locks-lock}

-- WHAT IS HELD OF A LIVE SEGMENT

pub record HeldHere (hs : List Held) (id : ℕ) (r : Row Head) : Type 0 where
  pub g : Held
  pub is : find_held hs id ≡ Some g
  pub pages : held_pages g ≡ pages_of r.value.size
  pub locks : pages_if_locked g ≡ (if r.value.locked then pages_of r.value.size else 0)

pub held-here : (hs : List Held) (rows : List (Entry Head)) (id : ℕ) (r : Row Head) → Agree hs rows → live_row rows id ≡ Some r → HeldHere hs id r
held-here hs rows id r agree there = grind (arith, common_steps, held-as)

-- DESTROYED

pub kept-without : (hs : List Held) (rows : List (Entry Head)) (pages locks seg : ℕ) (v : Head) → AreSegmentsSound hs rows pages locks → look rows (pos seg) ≡ Ok v
    → KeptAs (without hs seg) (without_row rows (seg % 32768)) (pages - pages_of v.size) (locks - (if v.locked then pages_of v.size else 0)) (destroyed (joined_table hs rows) seg)
kept-without hs rows pages locks seg v k looked =
    let i = seg % 32768 in
    let r : Row Head = record { key = key_at rows i; value = v } in
    let lives : live_row rows seg ≡ Some r = look-live rows seg v looked in
    let at = live-at rows seg r lives in
    let own : id_of rows i ≡ seg = at.own in
    let small : i < 32768 = omega arith in
    let sequence : (entry_at rows i).destroyed ≡ seg / 32768 = omega (arith, own) in
    let fewer = sum-without_row pages_in_row refl rows i r at.within at.there in
    let looser = sum-without_row locked_in_row refl rows i r at.within at.there in
    let here = held-here hs rows seg r k.agree lives in
    record {
      kept =
          record {
            agree = rw own at (agree-without hs rows i k.agree at.within);
            sizes = sizes at;
            reserved = omega (arith, fewer, k.reserved);
            locked = omega (arith, looser, k.locked);
            apart = apart-without hs seg k.apart;
            all_pages = omega (arith, sum-without held_pages hs seg here.g k.apart here.is, here.pages, k.all_pages);
            few_locked = omega (arith, sum-without pages_if_locked hs seg here.g k.apart here.is, here.locks, k.few_locked);
          };
      is = rw own at (joined-without hs rows i k.agree.few small) ∙ ap (λ n. slice_set (joined_table hs rows) i (record { destroyed = n + 1; segment = None })) sequence;
    }
  where
    sizes : LiveAt rows seg (record { key = key_at rows (seg % 32768); value = v }) → SizesFit (without_row rows (seg % 32768))
    sizes at = grind (arith, common_steps, live-without_here, at.within, k.sizes, live-without, at.own)

-- LOCKED OR UNLOCKED

pub relocked-size : (o : Option ℕ) (v : Head) → (relocked_head o v).size ≡ v.size
relocked-size o v = grind (arith)

pub relocked-locked : (o : Option ℕ) (v : Head) → (relocked_head o v).locked ≡ is_some o
relocked-locked o v = grind (arith)

relocked-seen : (o : Option ℕ) (r : Row Head) (bytes : List ℕ) → relocked o (segment_of r bytes) ≡ segment_of (record r { value = relocked_head o r.value }) bytes
relocked-seen o r bytes = grind (arith)

kept-relocked : (hs : List Held) (rows : List (Entry Head)) (pages locks seg : ℕ) (v w : Head) (f : Segment → Segment) → AreSegmentsSound hs rows pages locks → look rows (pos seg) ≡ Ok v
    → w.size ≡ v.size → ((key : ℕ) (bytes : List ℕ) → f (segment_of (record { key = key; value = v }) bytes) ≡ segment_of (record { key = key; value = w }) bytes)
    → KeptAs (with_lock hs seg w.locked) (with_value rows (seg % 32768) w) pages
    (locks - (if v.locked then pages_of v.size else 0) + (if w.locked then pages_of v.size else 0)) (change (joined_table hs rows) seg f)
kept-relocked hs rows pages locks seg v w f k looked size seen =
    let r : Row Head = record { key = key_at rows (seg % 32768); value = v } in
    let b = w.locked in
    let lives : live_row rows seg ≡ Some r = look-live rows seg v looked in
    let range = k.sizes seg r lives in
    let loose = sum-other locked_in_row refl rows seg r (record r { value = w }) lives in
    let within = locked-within rows seg r lives in
    let alike : (if w.locked then pages_of w.size else 0) ≡ (if w.locked then pages_of v.size else 0) = ap (λ n. if w.locked then pages_of n else 0) size in
    let here = held-here hs rows seg r k.agree lives in
    let more : (b : Bool) → (if b then held_pages here.g else 0) ≡ (if b then pages_of v.size else 0) = λ b. ap (λ n. if b then n else 0) here.pages in
    rw (other-value rows seg r w lives) (record {
      kept =
          record {
            agree = agree-lock hs rows seg r w k.agree lives size;
            sizes = sizes-other rows seg r (record r { value = w }) lives k.sizes (rw size range);
            reserved = k.reserved ∙ sym (pages-with_other rows seg r (record r { value = w }) lives size);
            locked = omega (arith, loose, within, alike, k.locked);
            apart = apart-lock hs seg b k.apart;
            all_pages = pages-lock hs seg b ∙ k.all_pages;
            few_locked = omega (arith, locks-lock hs seg b here.g k.apart here.is, here.locks, more b, k.few_locked);
          };
      is = joined-locked hs rows seg r w f lives (seen r.key (bytes_of hs seg));
    })

pub kept-locked : (hs : List Held) (rows : List (Entry Head)) (pages locks seg : ℕ) (v : Head) (o : Option ℕ) → AreSegmentsSound hs rows pages locks → look rows (pos seg) ≡ Ok v
    → KeptAs (with_lock hs seg (is_some o)) (with_value rows (seg % 32768) (relocked_head o v)) pages
    (locks - (if v.locked then pages_of v.size else 0) + (if is_some o then pages_of v.size else 0)) (change (joined_table hs rows) seg (relocked o))
kept-locked hs rows pages locks seg v o k looked = rw (relocked-locked o v) at (kept-relocked hs rows pages locks seg v (relocked_head o v) (relocked o) k looked (relocked-size o v) (λ key bytes. relocked-seen o (record { key = key; value = v }) bytes))

-- MADE

pub kept-made : (hs : List Held) (rows : List (Entry Head)) (pages locks i key : ℕ) (v : Head) → AreSegmentsSound hs rows pages locks → free_index rows ≡ Some i → v.locked ≡ false
    → (1 ≤ v.size) × (v.size ≤ MOST_SHMMAX)
    → KeptAs (with_zeros hs (id_of rows i) (pages_of v.size)) (with_row rows i key v) (pages + pages_of v.size) locks (created (joined_table hs rows) i key v)
kept-made hs rows pages locks i key v k found loose range =
    let free = index-free rows i k.agree.few found in
    let more = sum-with_row pages_in_row refl rows i key v free in
    record {
      kept =
          record {
            agree = agree-with_row hs rows i key (pages_of v.size) v k.agree free loose refl;
            sizes = sizes free;
            reserved = omega (arith, more, k.reserved);
            locked = k.locked ∙ sym (locked-with_row rows i key v free loose);
            apart = apart-zeros hs (id_of rows i) (pages_of v.size) (free-new hs rows i k.agree free) k.apart;
            all_pages = omega (arith, pages-zeros hs (id_of rows i) (pages_of v.size), k.all_pages);
            few_locked = omega (arith, locks-zeros hs (id_of rows i) (pages_of v.size), k.few_locked);
          };
      is = joined-with_row hs rows i key (pages_of v.size) v k.agree free;
    }
  where
    sizes : IsFree rows i → SizesFit (with_row rows i key v)
    sizes free = λ id q is. by id q is (cases_eq id (id_of rows i))
      where
        by : (id : ℕ) (q : Row Head) → live_row (with_row rows i key v) id ≡ Some q → (id ≡ id_of rows i) ⊎ (id ≢ id_of rows i) → (1 ≤ q.value.size) × (q.value.size ≤ MOST_SHMMAX)
        by id q is (inl e) =
            let own : live_row (with_row rows i key v) (id_of rows i) ≡ Some q = rw e at is in
            let same : record { key = key; value = v } ≡ q = cc (sym (live-with_row_same rows i key v free) ∙ own) in
            rw (← same) range
        by id q is (inr n) = k.sizes id q (sym (live-with_row_other rows i id key v free n) ∙ is)

-- THE NEXT ONE

-- the segment that is made is the one that the flat table makes
pub made-joined : (hs : List Held) (rows : List (Entry Head)) (i key : ℕ) (v : Head) → free_index rows ≡ Some i
    → made (joined_table hs rows) key v ≡ Some (pos (id_of rows i), created (joined_table hs rows) i key v)
made-joined hs rows i key v found = grind (arith, common_steps, flat.free_index, free_index-flat, option_map, pos, flat.identifier, flat.destroyed_at, destroyed_at-flat)

-- the next identifier is that of the free index, and no segment is held under it, or under another of its index
pub record IsNext (hs : List Held) (rows : List (Entry Head)) (id : ℤ) : Type 0 where
  pub i : ℕ
  pub found : free_index rows ≡ Some i
  pub is : id ≡ pos (id_of rows i)
  pub new : is_held hs (id_of rows i) ≡ false
  pub free : IsIndexFree hs (id_of rows i)

pub next-free : (hs : List Held) (rows : List (Entry Head)) (id : ℤ) → Agree hs rows → Some id ≡ option_map (id_at rows) (free_index rows) → IsNext hs rows id
next-free hs rows id agree is = by (free_index rows) refl is
  where
    by : (o : Option ℕ) → free_index rows ≡ o → Some id ≡ option_map (id_at rows) o → IsNext hs rows id
    by None found z = absurd (none-some id (sym z))
    by (Some i) found z = record { i = i; found = found; is = cc z; new = free-new hs rows i agree (index-free rows i agree.few found); free = free-index hs rows i agree (index-free rows i agree.few found) }

-- a segment has few pages
pub few-pages : (b : Bool) (size : ℕ) → size ≤ MOST_SHMMAX → (if b then pages_of size else 0) ≤ MOST_SHMALL
few-pages b size range = grind (arith, nat_tests)
