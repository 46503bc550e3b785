-- What holds after a change of a head.
use Rattle.shm_segments.proofs.Names.{◌≡◌, ℕ, pos, ◌%◌, ◌≤◌, List, Some, sym, ◌∙◌, arith, Segment, change, Row, key_at, look, with_value, with_key, Held, bytes_of, Head, segment_of, whole, joined_table, SizesFit, AreSegmentsSound, common_steps, Ok, FlatEntry, Entry, live_row, MOST_SHMMAX}
use Rattle.shm_segments.proofs.Sums.{pages-with_other, locked-other_same}
use Rattle.shm_segments.proofs.Edits.{look-live, with_other, other-value, other-both, live-other_same, live-other, joined-other, agree-other}

-- another row of a size in range
pub sizes-other : (rows : List (Entry Head)) (id : ℕ) (r s : Row Head) → live_row rows id ≡ Some r → SizesFit rows → (1 ≤ s.value.size) × (s.value.size ≤ MOST_SHMMAX) → SizesFit (with_other rows id s)
sizes-other rows id r s lives sizes range = grind (arith, common_steps, with_other, live-other_same, live-other)

-- the invariant of rows and bytes, and the table that they show
pub record KeptAs (hs : List Held) (rows : List (Entry Head)) (pages locked_pages : ℕ) (shown : List FlatEntry) : Type 0 where
  pub kept : AreSegmentsSound hs rows pages locked_pages
  pub is : joined_table hs rows ≡ shown

-- another row of the same size and lock
kept-other : (hs : List Held) (rows : List (Entry Head)) (pages locks seg : ℕ) (r s : Row Head) (f : Segment → Segment) → AreSegmentsSound hs rows pages locks → live_row rows seg ≡ Some r
    → s.value.size ≡ r.value.size → s.value.locked ≡ r.value.locked → f (whole hs seg r) ≡ whole hs seg s → KeptAs hs (with_other rows seg s) pages locks (change (joined_table hs rows) seg f)
kept-other hs rows pages locks seg r s f k lives size locked same = record {
  kept =
      record {
        agree = agree-other hs rows seg r s k.agree lives cc;
        sizes = sizes-other rows seg r s lives k.sizes (rw size (k.sizes seg r lives));
        reserved = k.reserved ∙ sym (pages-with_other rows seg r s lives size);
        locked = k.locked ∙ sym (locked-other_same rows seg r s lives size locked);
        apart = k.apart;
        all_pages = k.all_pages;
        few_locked = k.few_locked;
      };
  is = joined-other hs rows seg r s f lives same;
}

-- a head is replaced by one of the same size and lock
pub kept-value : (hs : List Held) (rows : List (Entry Head)) (pages locks seg : ℕ) (v w : Head) (f : Segment → Segment) → AreSegmentsSound hs rows pages locks → look rows (pos seg) ≡ Ok v
    → w.size ≡ v.size → w.locked ≡ v.locked
    → ((key : ℕ) (bs : List ℕ) → f (segment_of (record { key = key; value = v }) bs) ≡ segment_of (record { key = key; value = w }) bs)
    → KeptAs hs (with_value rows (seg % 32768) w) pages locks (change (joined_table hs rows) seg f)
kept-value hs rows pages locks seg v w f k looked size locked same =
    let r : Row Head = record { key = key_at rows (seg % 32768); value = v } in
    let lives = look-live rows seg v looked in
    rw (other-value rows seg r w lives) (kept-other hs rows pages locks seg r (record r { value = w }) f k lives size locked (same r.key (bytes_of hs seg)))

-- the same, and the key hidden
pub kept-both : (hs : List Held) (rows : List (Entry Head)) (pages locks seg : ℕ) (v w : Head) (f : Segment → Segment) → AreSegmentsSound hs rows pages locks → look rows (pos seg) ≡ Ok v
    → w.size ≡ v.size → w.locked ≡ v.locked
    → ((key : ℕ) (bs : List ℕ) → f (segment_of (record { key = key; value = v }) bs) ≡ segment_of (record { key = 0; value = w }) bs)
    → KeptAs hs (with_key (with_value rows (seg % 32768) w) (seg % 32768) 0) pages locks (change (joined_table hs rows) seg f)
kept-both hs rows pages locks seg v w f k looked size locked same =
    let r : Row Head = record { key = key_at rows (seg % 32768); value = v } in
    let lives = look-live rows seg v looked in
    rw (other-both rows seg r 0 w lives) (kept-other hs rows pages locks seg r (record { key = 0; value = w }) f k lives size locked (same r.key (bytes_of hs seg)))
