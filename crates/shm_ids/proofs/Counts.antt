-- How many rows are live after each change of a table.
use Rattle.shm_ids.proofs.Names.{◌≡◌, ℕ, ◌+◌, ◌<◌, ◌≤◌, List, length, Some, None, is_some, arith, common_steps, count_by-le-length, Entry, Row, entry_at, with_row, with_key, with_value, without_row, row_count}

module _ {T : Type 0} where
  pub row_count-with_row : (t : List (Entry T)) (i key : ℕ) (v : T) → i ≤ length t → (entry_at t i).row ≡ None → row_count (with_row t i key v) ≡ row_count t + 1
  row_count-with_row t i key v within none = grind (arith, common_steps)

  pub row_count-with_key : (t : List (Entry T)) (i key : ℕ) → i < length t → row_count (with_key t i key) ≡ row_count t
  row_count-with_key t i key within = grind (arith, common_steps)

  pub row_count-with_value : (t : List (Entry T)) (i : ℕ) (v : T) → i < length t → row_count (with_value t i v) ≡ row_count t
  row_count-with_value t i v within = grind (arith, common_steps)

  pub row_count-without_row : (t : List (Entry T)) (i : ℕ) (r : Row T) → i < length t → (entry_at t i).row ≡ Some r → row_count (without_row t i) + 1 ≡ row_count t
  row_count-without_row t i r within there = grind (arith, common_steps)

  pub row_count-le-length : (t : List (Entry T)) → row_count t ≤ length t
  row_count-le-length t = count_by-le-length (λ (e : Entry T). is_some e.row) t
