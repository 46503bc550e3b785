-- The least free index.
use Rattle.shm_ids.proofs.Names.{◌≡◌, ◌⊎◌, ℕ, zero, suc, ◌+◌, ◌<◌, ◌≤◌, List, [], ◌∷◌, length, map, drop, Some, None, refl, inl, inr, arith, common_steps, drop_more, drop_all, nat_tests, Entry, unused, blank_entry, entry_at, IsFree, free_index, AreIndexesKnown, is_open, true, if◌then◌else◌, nat_lt, ◌∙◌, cases_lt, NumbersView, IsLeastNumber}
use Rattle.shm_base.specs.Identifier as flat
use Rattle.shm_ids.proofs.Entries.{at_past}

module _ {T : Type 0} where
  -- no index below is free
  abbrev pub UsedBelow : ℕ → List (Entry T) → Type 0
  UsedBelow first t = (i : ℕ) → i < first → IsFree (entry_at t i) → ⊥

  -- an index below which none is free is within the table
  pub used_within : (t : List (Entry T)) (first : ℕ) → UsedBelow first t → first ≤ length t
  used_within t first used = let past = used (length t) in grind (arith, common_steps, at_past)

  -- so the search may begin there
  pub skip : (t : List (Entry T)) (first : ℕ) → UsedBelow first t → free_index t ≡ flat.free_from first (map blank_entry (drop first t))
  skip t zero used = refl
  skip t (suc n) used =
      let within = used_within t (suc n) used in
      let step : drop n t ≡ entry_at t n ∷ drop (n + 1) t = drop_more t n unused (omega arith) in
      let busy = used n (omega arith) in
      let one : n + 1 ≡ suc n = omega arith in
      grind (arith, common_steps, flat.free_from, drop, skip t n)

  -- what a search from n finds in a list
  pub record FreeAt (n j : ℕ) (t : List (Entry T)) : Type 0 where
    pub place : ℕ
    pub at : n + place ≡ j
    pub within : place ≤ length t
    pub row : (entry_at t place).row ≡ None
    pub wear : (entry_at t place).destroyed < 65536
    pub small : place ≡ length t → j < 32768
    pub used : UsedBelow place t

  -- the search stops at an entry whose index is free, and continues at any other
  step : (n : ℕ) (e : Entry T) (es : List (Entry T)) → ((e.row ≡ None) × (e.destroyed < 65536) × (flat.free_from n (map blank_entry (e ∷ es)) ≡ Some n)) ⊎ ((IsFree e → ⊥) × (flat.free_from n (map blank_entry (e ∷ es)) ≡ flat.free_from (n + 1) (map blank_entry es)))
  step n e es = grind (arith, common_steps)

  pub free_found : (n j : ℕ) (t : List (Entry T)) → flat.free_from n (map blank_entry t) ≡ Some j → FreeAt n j t
  free_found n j [] h = record { place = 0; at = grind arith; within = omega arith; row = refl; wear = omega arith; small = λ _. grind (arith, common_steps); used = λ i l. absurd (omega arith) }
  free_found n j (e ∷ es) h =
      elim (step n e es) [
        | inl f ↦ record { place = 0; at = let at : n ≡ j = cc (f.2, h) in omega (arith, at); within = omega arith; row = f.0; wear = f.1; small = λ z. absurd (omega arith); used = λ i l. absurd (omega arith) }
        | inr b ↦
            let rest = free_found (n + 1) j es (rw b.1 at h) in
            let used = rest.used in
            record { place = suc rest.place; at = omega arith; within = omega arith; row = rest.row; wear = rest.wear; small = λ (z : suc rest.place ≡ suc (length es)). rest.small (omega arith); used = elim [ zero ↦ λ _. b.0 | suc k ↦ λ l. used k (omega arith) ] }
      ]

  -- the search stops at the least number that is not taken
  open_free : (e : Entry T) → IsFree e → is_open e ≡ true
  open_free e free = grind (arith, common_steps, nat_tests)

  used_below : (t : List (Entry T)) (v : NumbersView) (n : ℕ) → AreIndexesKnown t v → IsLeastNumber v n → UsedBelow n t
  used_below t v n known least i l free = let o = open_free (entry_at t i) free in let k = known.taken i in let b = least.below i l in grind (arith, nat_tests, o, k, b)

  pub least_free : (t : List (Entry T)) (v : NumbersView) (n : ℕ) → AreIndexesKnown t v → IsLeastNumber v n → length t ≤ 32768 → free_index t ≡ (if nat_lt n 32768 then Some n else None)
  least_free t v n known least few =
      let used = used_below t v n known least in
      let within = used_within t n used in
      let here : is_open (entry_at t n) ≡ true = let k = known.taken n in let f = least.free in grind (arith, nat_tests, k, f) in
      skip t n used ∙ elim (cases_lt n (length t)) [
        | inl lt ↦
            let more : drop n t ≡ entry_at t n ∷ drop (n + 1) t = drop_more t n unused lt in
            let small : nat_lt n 32768 ≡ true = grind (arith, nat_tests) in
            rw (more, small) (grind (arith, common_steps, nat_tests, here))
        | inr past ↦
            let none : drop n t ≡ [] = drop_all n t past in
            rw none (grind (arith, common_steps, nat_tests))
      ]
