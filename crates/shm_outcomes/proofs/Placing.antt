-- Things in a map whose keys are equal only if they are the same.
use Rattle.shm_outcomes.proofs.Names.{◌≡◌, ℕ, List, [], ◌∷◌, ◌++◌, Option, Some, None, Bool, true, false, map, Contains, IsTrue, is_some, Decides, keys_of, refl, ap, sym, ◌∙◌, true≢false, position-Some, is_member-Decides, is_some-lookup, IndexMap, get, index_of, insert_entry, keys, insert_entry-new, Event, Reply, Finding, IsAt, outcomes_in}

module _ {K V S : Type 0} (eq : K → K → Bool) (same : (a b : K) → Decides (eq a b) (a ≡ b)) (m : IndexMap K V S) (k : K) where
  -- a key is found exactly when it is there
  pub is-there : (b : Bool) → b ≡ is_some (get eq m k) → (IsTrue b → Contains (keys m) k) × (Contains (keys m) k → IsTrue b)
  is-there b is = (let d = is_member-Decides same (keys m) k in let any = is ∙ is_some-lookup (eq k) m.entries in (λ t. d.0 (sym any ∙ t), λ there. any ∙ d.1 there))

  -- where the map finds it, there it is
  pub is-at : (i : ℕ) → index_of eq m k ≡ Some i → IsAt (keys m) i k
  is-at i found = (
    (position-Some (eq k) (keys m) i k found).0,
    λ d. sym ((same k _).0 (position-Some (eq k) (keys m) i d found).1),
  )

  -- a key that is not there goes last
  pub goes-last : (v : V) → is_some (get eq m k) ≡ false → insert_entry eq m.entries k v ≡ m.entries ++ (k, v) ∷ []
  goes-last v none = insert_entry-new eq m k v (by (get eq m k) none)
    where
      by : (o : Option V) → is_some o ≡ false → o ≡ None
      by None e = λ i. None
      by (Some x) e = absurd (true≢false e)

  pub not-found : (Contains (keys m) k → ⊥) → is_some (get eq m k) ≡ false
  not-found absent = by (is_some (get eq m k)) (is-there (is_some (get eq m k)) refl)
    where
      by : (b : Bool) → (IsTrue b → Contains (keys m) k) × (Contains (keys m) k → IsTrue b) → b ≡ false
      by false h = refl
      by true h = absurd (absent (h.0 refl))

-- outcomes with the calls of their runs
module _ {V : Type 0} (f : V → List Event) where
  abbrev pub found_as : List (List Reply) × V → Finding
  found_as entry = record { events = f entry.1; outcome = entry.0 }

  pub outcomes-found : (es : List (List (List Reply) × V)) → outcomes_in (map found_as es) ≡ keys_of es
  outcomes-found [] = refl
  outcomes-found (e ∷ es) = ap (λ (l : List (List (List Reply))). e.0 ∷ l) (outcomes-found es)
