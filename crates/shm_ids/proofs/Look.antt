-- What is found under a live identifier.
use Rattle.shm_ids.proofs.Names.{◌≡◌, ℕ, ◌∙◌, ◌/◌, ◌%◌, ◌<◌, ℤ, pos, negsuc, nat_eq, List, length, Option, Some, None, Ok, IsOk, refl, sym, arith, true≢false, common_steps, slice_get-map, unwrap_or, unwrap_or-slice_get, slice_get, blank_entry, option_map, unused, looked, Entry, Row, IndexMap, get, entry_at, key_at, look, look_entry, look_row, index_of, identifier, id_at, natural_of, NumbersView, Sound}
use Rattle.shm_base.specs.Identifier as flat
use Rattle.shm_ids.proofs.Entries.{at_past}

-- the parts of an identifier
pub identifier-mod : (i d : ℕ) → i < 32768 → identifier i d % 32768 ≡ i
identifier-mod i d small = omega (arith, small)

module _ {T : Type 0} where
  pub record Live (t : List (Entry T)) (id : ℤ) : Type 0 where
    pub within : index_of id < length t
    pub row : Row T
    pub there : (entry_at t (index_of id)).row ≡ Some row
    pub looked : look t id ≡ Ok row.value

  pub live_entry : (sequence : ℕ) (e : Entry T) → IsOk (look_entry sequence e) → (row : Row T) × (e.row ≡ Some row) × (look_entry sequence e ≡ Ok row.value)
  live_entry sequence e ok = by e.row refl
    where
      by : (r : Option (Row T)) → e.row ≡ r → (row : Row T) × (e.row ≡ Some row) × (look_entry sequence e ≡ Ok row.value)
      by None p = absurd (grind (arith, common_steps))
      by (Some r) p = (r, p, grind (arith, common_steps))

  looked-shown : (at : ℕ → Entry T) (i q : ℕ) (o : Option (Entry T)) → unwrap_or o unused ≡ at i → looked at (flat.look_entry i q (option_map blank_entry o)) ≡ look_entry q (at i)
  looked-shown at i q o here = grind (arith, common_steps)

  -- looking up an identifier is looking at the entry of its index
  pub look-entry : (t : List (Entry T)) (n : ℕ) → look t (pos n) ≡ look_entry (n / 32768) (entry_at t (n % 32768))
  look-entry t n = rw slice_get-map (looked-shown (entry_at t) (n % 32768) (n / 32768) (slice_get t (n % 32768)) (unwrap_or-slice_get t (n % 32768) unused))

  pub live_at : (t : List (Entry T)) (id : ℤ) → IsOk (look t id) → Live t id
  live_at t (negsuc n) ok = absurd (true≢false (sym ok))
  live_at t (pos n) ok =
      let e = live_entry (n / 32768) (entry_at t (n % 32768)) (rw look-entry at ok) in
      record { within = grind (arith, common_steps, at_past); row = e.0; there = e.1; looked = look-entry t n ∙ e.2 }

  -- what is found under the present identifier of an index
  pub look-id_at : (t : List (Entry T)) (i : ℕ) → i < 32768 → look t (id_at t i) ≡ look_row (entry_at t i).row
  look-id_at t i small = grind (arith, common_steps, look-entry)

  -- a row that is found by its key is live
  pub look-found : {S : Type 0} (t : List (Entry T)) (n : NumbersView) (key i : ℕ) (keys : IndexMap ℕ ℕ S) → Sound t n keys → get nat_eq keys key ≡ Some i → IsOk (look t (id_at t i))
  look-found t n key i keys s got = grind (arith, common_steps, look-id_at)

  -- a live identifier is the present one of its index
  pub live_number : (t : List (Entry T)) (id : ℤ) → IsOk (look t id) → identifier (index_of id) (entry_at t (index_of id)).destroyed ≡ natural_of id
  live_number t (negsuc n) ok = absurd (true≢false (sym ok))
  live_number t (pos n) ok = grind (arith, common_steps, look-entry)

  -- the entry of a live identifier
  pub record LiveRow (t : List (Entry T)) (n : ℕ) (v : T) : Type 0 where
    pub within : n % 32768 < length t
    pub there : (entry_at t (n % 32768)).row ≡ Some (record { key = key_at t (n % 32768); value = v })
    pub own : identifier (n % 32768) (entry_at t (n % 32768)).destroyed ≡ n

  pub live_looked : (t : List (Entry T)) (n : ℕ) (v : T) → look t (pos n) ≡ Ok v → LiveRow t n v
  live_looked t n v looked = grind (arith, common_steps, look-entry)
