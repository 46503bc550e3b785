-- The table's words agree with the flat machine's.
use Rattle.shm_ids.proofs.Names.{◌≡◌, ◌≢◌, ℕ, zero, suc, ◌+◌, ◌%◌, ◌<◌, ◌≤◌, ℤ, pos, negsuc, List, [], ◌∷◌, ◌++◌, length, set, slice_get, slice_set, Option, Some, None, IsOk, refl, sym, ap, ◌∙◌, inl, inr, arith, eq-eqb, ne_eqb, common_steps, cases_eq, sum_by-cons, Entry, Row, unused, map, blank_entry, blank_segment, option_map, entry_at, free_index, identifier, index_of, row_key, index_found, find_key, look, look_entry, filled, with_row, row_count, flat_entry, flat_from, flat_table, flat_answer, flat_look, flat_found, ShowsKeys}
use Rattle.shm_base.specs.State.{Segment, Entry as FlatEntry}
use Rattle.shm_base.specs.Identifier as flat
use Rattle.shm_base.specs.Segments as flat_segments
use Rattle.shm_ids.proofs.Entries.{at_past}
use Rattle.shm_ids.proofs.Look.{look-entry, live_at, live_number}

module _ {T : Type 0} (make : ℕ → Row T → Segment) where
  -- THE ENTRIES

  pub length-flat : (i : ℕ) (t : List (Entry T)) → length (flat_from make i t) ≡ length t
  length-flat i [] = refl
  length-flat i (e ∷ es) = ap suc (length-flat (i + 1) es)

  -- the entry at an index
  pub at-flat : (i k : ℕ) (t : List (Entry T)) → k < length t → slice_get (flat_from make i t) k ≡ Some (flat_entry make (i + k) (entry_at t k))
  at-flat i k [] l = absurd (omega arith)
  at-flat i zero (e ∷ es) l = ap (λ n. Some (flat_entry make n e)) (omega arith)
  at-flat i (suc k) (e ∷ es) l = at-flat (i + 1) k es (omega arith) ∙ ap (λ n. Some (flat_entry make n (entry_at es k))) (omega arith)

  pub past-flat : (i k : ℕ) (t : List (Entry T)) → length t ≤ k → slice_get (flat_from make i t) k ≡ None
  past-flat i k [] l = refl
  past-flat i zero (e ∷ es) l = absurd (omega arith)
  past-flat i (suc k) (e ∷ es) l = past-flat (i + 1) k es (omega arith)

  -- an entry set
  pub set-flat : (i k : ℕ) (t : List (Entry T)) (e : Entry T) → slice_set (flat_from make i t) k (flat_entry make (i + k) e) ≡ flat_from make i (set t k e)
  set-flat i k [] e = refl
  set-flat i zero (x ∷ xs) e = ap (λ n. flat_entry make n e ∷ flat_from make (i + 1) xs) (omega arith)
  set-flat i (suc k) (x ∷ xs) e = grind (arith, common_steps, set-flat (i + 1) k xs e)

  -- an entry at the end
  pub push-flat : (i : ℕ) (t : List (Entry T)) (e : Entry T) → flat_from make i t ++ flat_entry make (i + length t) e ∷ [] ≡ flat_from make i (t ++ e ∷ [])
  push-flat i [] e = ap (λ n. flat_entry make n e ∷ []) (omega arith)
  push-flat i (x ∷ xs) e = grind (arith, common_steps, push-flat (i + 1) xs e)

  zero_plus : (n : ℕ) → 0 + n ≡ n
  zero_plus n = omega arith

  -- the same from index 0 on
  pub at-table : (k : ℕ) (t : List (Entry T)) → k < length t → slice_get (flat_table make t) k ≡ Some (flat_entry make k (entry_at t k))
  at-table k t l = at-flat 0 k t l ∙ ap (λ n. Some (flat_entry make n (entry_at t k))) (zero_plus k)

  pub set-table : (k : ℕ) (t : List (Entry T)) (e : Entry T) → slice_set (flat_table make t) k (flat_entry make k e) ≡ flat_table make (set t k e)
  set-table k t e = ap (λ n. slice_set (flat_table make t) k (flat_entry make n e)) (sym (zero_plus k)) ∙ set-flat 0 k t e

  pub push-table : (t : List (Entry T)) (e : Entry T) → flat_table make t ++ flat_entry make (length t) e ∷ [] ≡ flat_table make (t ++ e ∷ [])
  push-table t e = ap (λ n. flat_table make t ++ flat_entry make n e ∷ []) (sym (zero_plus (length t))) ∙ push-flat 0 t e

  -- THE LEAST FREE INDEX

  free_from-flat : (i j : ℕ) (t : List (Entry T)) → flat.free_from j (flat_from make i t) ≡ flat.free_from j (map blank_entry t)
  free_from-flat i j [] = refl
  free_from-flat i j (e ∷ es) = grind (arith, common_steps, free_from-flat (i + 1) (j + 1) es)

  pub free_index-flat : (t : List (Entry T)) → flat.free_index (flat_table make t) ≡ free_index t
  free_index-flat t = free_from-flat 0 0 t

  -- HOW MANY WERE DESTROYED

  pub destroyed_at-flat : (t : List (Entry T)) (i : ℕ) → flat.destroyed_at (flat_table make t) i ≡ (entry_at t i).destroyed
  destroyed_at-flat t i = grind (arith, common_steps, at-table, past-flat, at_past)

  -- LOOKING UP

  look_parts : (i q id : ℕ) (e : Entry T) → (q ≡ e.destroyed → identifier i e.destroyed ≡ id)
      → flat.look_entry i q (Some (flat_entry make i e)) ≡ flat_answer make i id (row_key e.row) (look_entry q e)
  look_parts i q id e own = grind (arith, common_steps)

  -- a live identifier is live for both, and so are a removed and an invalid one
  pub look-flat : (t : List (Entry T)) (id : ℤ) → flat.look (flat_table make t) id ≡ flat_look make t id (look t id)
  look-flat t (negsuc n) = refl
  look-flat t (pos n) = grind (arith, common_steps, look-entry, at-table, look_parts, past-flat, at_past)

  same_key : ShowsKeys make → (id key : ℕ) (r : Option (Row T)) → flat.has_key key (option_map (make id) r) ≡ flat.has_key key (option_map blank_segment r)
  same_key shows id key None = refl
  same_key shows id key (Some r) = rw (shows id r) refl

  found_from : ShowsKeys make → (n key : ℕ) (t : List (Entry T)) (at : ℕ → Entry T) → ((k : ℕ) → k < length t → entry_at t k ≡ at (n + k))
      → flat.key_from key n (flat_from make n t) ≡ flat_found make at (index_found (flat.key_from key n (map blank_entry t)))
  found_from shows n key [] at same = refl
  found_from shows n key (e ∷ es) at same =
      let here : e ≡ at n = same 0 (omega arith) ∙ ap at (omega arith) in
      let rest = found_from shows (n + 1) key es at (λ k l. same (suc k) (omega arith) ∙ ap at (omega arith)) in
      let own = same_key shows (identifier n e.destroyed) key e.row in
      grind arith

  -- the row with a key
  pub find_key-flat : ShowsKeys make → (t : List (Entry T)) (key : ℕ) → key ≢ 0 → flat.find_key (flat_table make t) key ≡ flat_found make (entry_at t) (find_key t key)
  find_key-flat shows t key live = rw (ne_eqb key 0 live) (found_from shows 0 key t (entry_at t) (λ k l. ap (entry_at t) (omega arith)))

  index_from : ShowsKeys make → (n key : ℕ) (t : List (Entry T)) → index_found (flat.key_from key n (flat_from make n t)) ≡ index_found (flat.key_from key n (map blank_entry t))
  index_from shows n key [] = refl
  index_from shows n key (e ∷ es) =
      let own = same_key shows (identifier n e.destroyed) key e.row in
      let rest = index_from shows (n + 1) key es in
      grind (arith, common_steps)

  -- a key that the flat machine does not find is found by neither
  pub find_key-absent : ShowsKeys make → (t : List (Entry T)) (key : ℕ) → (key ≢ 0 → flat.find_key (flat_table make t) key ≡ flat.Invalid) → find_key t key ≡ None
  find_key-absent shows t key none = grind (arith, common_steps, index_from shows 0 key t)

  -- the row that a key finds is the one that its identifier finds
  pub find_key-look : ShowsKeys make → (t : List (Entry T)) (key : ℕ) (id : ℤ) → key ≢ 0 → find_key t key ≡ Some (index_of id) → IsOk (look t id)
      → flat.find_key (flat_table make t) key ≡ flat.look (flat_table make t) id
  find_key-look shows t key id live found ok = grind (arith, common_steps, live_at, live_number, find_key-flat, look-flat)

  -- ROWS THAT ARE ADDED, CHANGED AND DESTROYED

  pub with_segment-flat : (t : List (Entry T)) (i key : ℕ) (v : T) → i ≤ length t
      → flat.with_segment (flat_table make t) i (make (identifier i (entry_at t i).destroyed) (record { key = key; value = v })) ≡ flat_table make (with_row t i key v)
  with_segment-flat t i key v within =
      let long : length (flat_table make t) ≡ length t = length-flat 0 t in
      elim (cases_eq i (length t)) [
        | inl e ↦
            let d : (entry_at t i).destroyed ≡ 0 = ap (λ (x : Entry T). x.destroyed) (at_past t i (omega arith)) in
            rw (long, eq-eqb i (length t) e, d) (ap (λ n. flat_table make t ++ flat_entry make n (filled unused key v) ∷ []) e ∙ push-table t (filled unused key v))
        | inr n ↦ rw (long, ne_eqb i (length t) n, destroyed_at-flat t i) (set-table i t (filled (entry_at t i) key v))
      ]

  pub segment_count-flat : (i : ℕ) (t : List (Entry T)) → flat_segments.segment_count (flat_from make i t) ≡ row_count t
  segment_count-flat i [] = refl
  segment_count-flat i (e ∷ es) = grind (arith, common_steps, sum_by-cons, segment_count-flat (i + 1) es)

  -- one row changes as f changes its segment
  pub change-flat : (t : List (Entry T)) (id : ℕ) (f : Segment → Segment) (r s : Row T) → id % 32768 < length t → (entry_at t (id % 32768)).row ≡ Some r
      → f (make (identifier (id % 32768) (entry_at t (id % 32768)).destroyed) r) ≡ make (identifier (id % 32768) (entry_at t (id % 32768)).destroyed) s
      → flat_segments.change (flat_table make t) id f ≡ flat_table make (set t (id % 32768) (record (entry_at t (id % 32768)) { row = Some s }))
  change-flat t id f r s within there same =
      let i = id % 32768 in
      rw (at-table i t within, there)
      (ap (λ (x : Segment). slice_set (flat_table make t) i (record { destroyed = (entry_at t i).destroyed; segment = Some x })) same
      ∙ set-table i t (record (entry_at t i) { row = Some s }))

  -- of an identifier the flat machine uses only the index
  pub change-index : (table : List FlatEntry) (id : ℕ) (f : Segment → Segment) → flat_segments.change table (id % 32768) f ≡ flat_segments.change table id f
  change-index table id f = grind (arith, common_steps)

-- two functions that show the rows of a table alike
module _ {T : Type 0} (make made : ℕ → Row T → Segment) where
  same_row : (id : ℕ) (r : Option (Row T)) → ((x : Row T) → r ≡ Some x → make id x ≡ made id x) → option_map (make id) r ≡ option_map (made id) r
  same_row id None same = refl
  same_row id (Some x) same = ap (λ (s : Segment). Some s) (same x refl)

  pub flat_from-make : (i : ℕ) (t : List (Entry T))
      → ((k : ℕ) (r : Row T) → k < length t → (entry_at t k).row ≡ Some r → make (identifier (i + k) (entry_at t k).destroyed) r ≡ made (identifier (i + k) (entry_at t k).destroyed) r)
      → flat_from make i t ≡ flat_from made i t
  flat_from-make i [] same = refl
  flat_from-make i (e ∷ es) same =
      let here : i + 0 ≡ i = omega arith in
      let first = same_row (identifier i e.destroyed) e.row (λ x is. rw here at (same 0 x (omega arith) is)) in
      let rest = flat_from-make (i + 1) es (λ k r l is. let next : i + suc k ≡ (i + 1) + k = omega arith in rw next at (same (suc k) r (omega arith) is)) in
      rw (first, rest) refl

  pub flat_table-make : (t : List (Entry T))
      → ((k : ℕ) (r : Row T) → k < length t → (entry_at t k).row ≡ Some r → make (identifier k (entry_at t k).destroyed) r ≡ made (identifier k (entry_at t k).destroyed) r)
      → flat_table make t ≡ flat_table made t
  flat_table-make t same = flat_from-make 0 t (λ k r l is. let here : 0 + k ≡ k = omega arith in rw here (same k r l is))
