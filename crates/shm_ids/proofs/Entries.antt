-- The entry at each index after a change.
use Rattle.shm_ids.proofs.Names.{◌≡◌, ◌≢◌, ℕ, ◌<◌, ◌≤◌, List, [], ◌∷◌, ◌++◌, length, set, Some, arith, get_or-set_same, get_or-set_other, get_or_past, set-set, common_steps, Entry, Row, unused, entry_at, filled, with_row, with_key, with_value}

module _ {T : Type 0} where
  pub at_past : (t : List (Entry T)) (i : ℕ) → length t ≤ i → entry_at t i ≡ unused
  at_past t i h = get_or_past t i unused h

  pub with_row-within : (t : List (Entry T)) (i key : ℕ) (v : T) → i < length t → with_row t i key v ≡ set t i (filled (entry_at t i) key v)
  with_row-within t i key v h = grind (arith, common_steps)

  pub with_row-end : (t : List (Entry T)) (i key : ℕ) (v : T) → i ≡ length t → with_row t i key v ≡ t ++ filled unused key v ∷ []
  with_row-end t i key v h = grind (arith, common_steps)

  pub at_row : (t : List (Entry T)) (i key : ℕ) (v : T) → i ≤ length t → entry_at (with_row t i key v) i ≡ filled (entry_at t i) key v
  at_row t i key v h = grind (arith, common_steps)

  pub at_row_other : (t : List (Entry T)) (i k key : ℕ) (v : T) → i ≤ length t → k ≢ i → entry_at (with_row t i key v) k ≡ entry_at t k
  at_row_other t i k key v h other = grind (arith, common_steps)

  -- a table stays within 32768 entries
  pub with_row-few : (t : List (Entry T)) (i key : ℕ) (v : T) → i ≤ length t → i < 32768 → length t ≤ 32768 → length (with_row t i key v) ≤ 32768
  with_row-few t i key v within small few = grind (arith, common_steps)

  -- an entry that is set
  pub at_set : (t : List (Entry T)) (i : ℕ) (e : Entry T) → i < length t → entry_at (set t i e) i ≡ e
  at_set t i e h = get_or-set_same t i e unused h

  pub at_set_other : (t : List (Entry T)) (i k : ℕ) (e : Entry T) → k ≢ i → entry_at (set t i e) k ≡ entry_at t k
  at_set_other t i k e other = get_or-set_other t i k e unused other

  -- a row that gets another value, and then another key
  pub with_key-with_value : (t : List (Entry T)) (i key : ℕ) (r : Row T) (v : T) → i < length t → (entry_at t i).row ≡ Some r
      → with_key (with_value t i v) i key ≡ set t i (record (entry_at t i) { row = Some (record { key = key; value = v }) })
  with_key-with_value t i key r v within there = grind (arith, common_steps, set-set)
