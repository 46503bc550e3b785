-- The identifiers of entries, and of those after the first.
use Rattle.shm_ids.proofs.Names.{◌≡◌, ℕ, suc, ◌+◌, ◌≤◌, List, ◌∷◌, length, None, sym, ap, subst, ◌∙◌, arith, Entry, rows_in, rows_from, rows_row, HaveIdentifiers}

module _ {T : Type 0} where
  pub few_entries : (t : List (Entry T)) → HaveIdentifiers 0 t → length t ≤ 32768
  few_entries t have = let indexes = have.indexes in omega arith

  pub identifiers_rest : (i : ℕ) (xs : List (Entry T)) (e : Entry T) (rest : List (Entry T)) → xs ≡ e ∷ rest → HaveIdentifiers i xs → HaveIdentifiers (i + 1) rest
  identifiers_rest i xs e rest is have =
      let l = subst (HaveIdentifiers i) is have in
      let indexes = l.indexes in
      record { indexes = omega arith; sequences = λ k. l.sequences (suc k) }

  pub identifiers_wear : (i : ℕ) (xs : List (Entry T)) (e : Entry T) (rest : List (Entry T)) → xs ≡ e ∷ rest → HaveIdentifiers i xs → e.destroyed + rows_in e.row ≤ 65536
  identifiers_wear i xs e rest is have = let l = subst (HaveIdentifiers i) is have in l.sequences 0

  pub passed : (i : ℕ) (xs : List (Entry T)) (e : Entry T) (rest : List (Entry T)) → xs ≡ e ∷ rest → e.row ≡ None → rows_from (i + 1) rest ≡ rows_from i xs
  passed i xs e rest is none = sym (ap (rows_from i) is ∙ ap (λ r. rows_row i e.destroyed r (rows_from (i + 1) rest)) none)
