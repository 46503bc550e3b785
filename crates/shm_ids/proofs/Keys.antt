-- The map of the live keys, and the search for a key through the table.
use Rattle.shm_ids.proofs.Names.{rules, ◌≡◌, ◌≢◌, ◌⊎◌, ℕ, zero, suc, ◌+◌, nat_eq, not, ◌&&◌, List, [], ◌∷◌, Option, Some, None, if◌then◌else◌, refl, sym, ap, ◌∙◌, inl, inr, arith, cases_eq, common_steps, IndexMap, get, Entry, key_at, row_key, map, blank_entry, index_found, find_key, Keyed}
use Rattle.shm_base.specs.Identifier as flat

-- the map after a key was added or removed
put-answer : (key q i j : ℕ) (before after : Option ℕ) → after ≡ (if not (nat_eq key 0) && nat_eq key q then Some i else before) → after ≡ Some j
    → ((key ≡ q) × (q ≢ 0) × (i ≡ j)) ⊎ (before ≡ Some j)
put-answer key q i j before after put got = grind (arith, common_steps)

drop-answer : (key q j : ℕ) (before after : Option ℕ) → after ≡ (if not (nat_eq key 0) && nat_eq key q then None else before) → after ≡ Some j
    → (before ≡ Some j) × ((key ≡ 0) ⊎ (key ≢ q))
drop-answer key q j before after put got = grind (arith, common_steps)

module _ {T : Type 0} where
  key_from-at : (n i key : ℕ) (t : List (Entry T)) → key ≢ 0 → key_at t i ≡ key → ((j : ℕ) → key_at t j ≡ key → j ≡ i) → index_found (flat.key_from key n (map blank_entry t)) ≡ Some (n + i)
  key_from-at n i key [] live at alone = absurd (live (sym at))
  key_from-at n zero key (e ∷ es) live at alone = grind (arith, common_steps)
  key_from-at n (suc i) key (e ∷ es) live at alone =
      let other : row_key e.row ≢ key = λ same. absurd (omega (arith, alone 0 same)) in
      let rest = key_from-at (n + 1) i key es live at (λ j same. omega (arith, alone (suc j) same)) in
      grind (arith, common_steps)

  key_from-none : (n key : ℕ) (t : List (Entry T)) → key ≢ 0 → ((j : ℕ) → key_at t j ≡ key → ⊥) → index_found (flat.key_from key n (map blank_entry t)) ≡ None
  key_from-none n key [] live none = refl
  key_from-none n key (e ∷ es) live none =
      let other : row_key e.row ≢ key = none 0 in
      let rest = key_from-none (n + 1) key es live (λ j same. none (suc j) same) in
      grind (arith, common_steps)

  -- the map returns what the search through the table does
  pub find_key-get : {S : Type 0} (t : List (Entry T)) (keys : IndexMap ℕ ℕ S) (key : ℕ) → Keyed t keys → find_key t key ≡ get nat_eq keys key
  find_key-get {S} t keys key keyed = by (cases_eq key 0) (get nat_eq keys key) refl
    where
      by : (key ≡ 0) ⊎ (key ≢ 0) → (r : Option ℕ) → get nat_eq keys key ≡ r → find_key t key ≡ get nat_eq keys key
      by (inl z) None e = grind (arith, common_steps)
      by (inl z) (Some i) e = absurd ((keyed.found key i e).1 z)
      by (inr n) None e = grind (arith, common_steps, key_from-none)
      by (inr n) (Some i) e =
          let there = keyed.found key i e in
          let alone : (j : ℕ) → key_at t j ≡ key → j ≡ i = λ j same. let live = keyed.live j (λ z. n (sym same ∙ z)) in search (rules, live, same, e) in
          let found = key_from-at 0 i key t n there.0 alone in
          grind (arith, common_steps)

  -- a row without a key gets one
  pub Keyed-put : {S : Type 0} (t u : List (Entry T)) (keys after : IndexMap ℕ ℕ S) (i key : ℕ)
      → Keyed t keys → find_key t key ≡ None → key_at t i ≡ 0 → key_at u i ≡ key → ((j : ℕ) → j ≢ i → key_at u j ≡ key_at t j)
      → ((q : ℕ) → get nat_eq after q ≡ (if not (nat_eq key 0) && nat_eq key q then Some i else get nat_eq keys q))
      → Keyed u after
  Keyed-put {S} t u keys after i key keyed none was now others put =
      record { found = found; live = live }
    where
      absent : get nat_eq keys key ≡ None
      absent = sym (find_key-get t keys key keyed) ∙ none

      found : (q j : ℕ) → get nat_eq after q ≡ Some j → (key_at u j ≡ q) × (q ≢ 0)
      found q j e = by (put-answer key q i j (get nat_eq keys q) (get nat_eq after q) (put q) e)
        where
          by : ((key ≡ q) × (q ≢ 0) × (i ≡ j)) ⊎ (get nat_eq keys q ≡ Some j) → (key_at u j ≡ q) × (q ≢ 0)
          by (inl h) = (ap (key_at u) (sym h.2) ∙ now ∙ h.0, h.1)
          by (inr had) =
              let there = keyed.found q j had in
              let other : j ≢ i = λ same. there.1 (sym there.0 ∙ ap (key_at t) same ∙ was) in
              (others j other ∙ there.0, there.1)

      live : (j : ℕ) → key_at u j ≢ 0 → get nat_eq after (key_at u j) ≡ Some j
      live j some = by (cases_eq j i)
        where
          by : (j ≡ i) ⊎ (j ≢ i) → get nat_eq after (key_at u j) ≡ Some j
          by (inl same) =
              let p = put (key_at u j) in
              let k : key_at u j ≡ key = ap (key_at u) same ∙ now in
              grind (arith, common_steps)
          by (inr other) =
              let p = put (key_at u j) in
              let k : key_at u j ≡ key_at t j = others j other in
              let had : get nat_eq keys (key_at t j) ≡ Some j = keyed.live j (λ z. some (k ∙ z)) in
              let differ : key ≢ key_at u j = λ same. absurd (search (rules, absent, had, same, k)) in
              grind (arith, common_steps)

  -- one row loses its key
  pub Keyed-drop : {S : Type 0} (t u : List (Entry T)) (keys after : IndexMap ℕ ℕ S) (i key : ℕ)
      → Keyed t keys → key_at t i ≡ key → key_at u i ≡ 0 → ((j : ℕ) → j ≢ i → key_at u j ≡ key_at t j)
      → ((q : ℕ) → get nat_eq after q ≡ (if not (nat_eq key 0) && nat_eq key q then None else get nat_eq keys q))
      → Keyed u after
  Keyed-drop {S} t u keys after i key keyed was now others put =
      record { found = found; live = live }
    where
      found : (q j : ℕ) → get nat_eq after q ≡ Some j → (key_at u j ≡ q) × (q ≢ 0)
      found q j e =
          let left = drop-answer key q j (get nat_eq keys q) (get nat_eq after q) (put q) e in
          let there = keyed.found q j left.0 in
          let other : j ≢ i = λ same. absurd (omega (arith, left.1, was, there.0, there.1, ap (key_at t) same)) in
          (others j other ∙ there.0, there.1)

      live : (j : ℕ) → key_at u j ≢ 0 → get nat_eq after (key_at u j) ≡ Some j
      live j some = by (cases_eq j i)
        where
          by : (j ≡ i) ⊎ (j ≢ i) → get nat_eq after (key_at u j) ≡ Some j
          by (inl same) = absurd (some (ap (key_at u) same ∙ now))
          by (inr other) =
              let p = put (key_at u j) in
              let k : key_at u j ≡ key_at t j = others j other in
              let had : get nat_eq keys (key_at t j) ≡ Some j = keyed.live j (λ z. some (k ∙ z)) in
              let mine : key ≡ key_at u j → key ≢ 0 → j ≡ i =
              λ s n. let own : get nat_eq keys (key_at t i) ≡ Some i = keyed.live i (λ z. n (sym was ∙ z)) in search (rules, had, own, s, k, was) in
              let differ : (key ≡ key_at u j) → key ≡ 0 = λ s. absurd (some (sym s ∙ zero_key s (cases_eq key 0) mine)) in
              grind (arith, common_steps)
            where
              zero_key : key ≡ key_at u j → (key ≡ 0) ⊎ (key ≢ 0) → (key ≡ key_at u j → key ≢ 0 → j ≡ i) → key ≡ 0
              zero_key s (inl z) mine = z
              zero_key s (inr n) mine = absurd (other (mine s n))
