-- A new segment gets an index without a segment.
use Rattle.shm_laws.proofs.Names.{◌≡◌, ◌≢◌, ◌⊎◌, ℕ, ◌/◌, ◌%◌, ◌<◌, pos, Invalid, look, none-some, List, length, Option, Some, None, slice_get, refl, sym, ap, ◌∙◌, inl, inr, arith, common_steps, cases_lt, Segment, Entry, free_index, destroyed_at, with_segment, slice_get-get_or, destroyed_in}
use Rattle.shm_life.proofs.Created.{added, is-free}

-- an entry without a segment, or the index after the last
abbrev pub IsEmpty : ℕ → Option Entry → Type 0
IsEmpty d o = (o ≡ Some (record { destroyed = d; segment = None })) ⊎ ((o ≡ None) × (d ≡ 0))

-- another index keeps what it has, and the free one gets the segment
pub record MadeAt (t : List Entry) (i : ℕ) (x : Segment) : Type 0 where
  pub empty : IsEmpty (destroyed_at t i) (slice_get t i)
  pub here : slice_get (with_segment t i x) i ≡ Some (record { destroyed = destroyed_at t i; segment = Some x })
  pub there : (j : ℕ) → i ≢ j → slice_get (with_segment t i x) j ≡ slice_get t j

is-empty : (o : Option Entry) → ((e : Entry) → o ≡ Some e → e.segment ≡ None) → IsEmpty (destroyed_in o) o
is-empty None none = inr (refl, refl)
is-empty (Some e) none = inl (ap (λ y. Some (record { destroyed = e.destroyed; segment = y })) (none e refl))

pub made-at : (t : List Entry) (i : ℕ) (x : Segment) → free_index t ≡ Some i → MadeAt t i x
made-at t i x found =
    let free = is-free t i found in
    let a = added t i x free in
    record { empty = is-empty (slice_get t i) free.none; here = a.here; there = λ j apart. a.others j (λ z. apart (sym z)) }

-- an index that was never used is taken only below 32768
pub free-small : (t : List Entry) (i : ℕ) → free_index t ≡ Some i → slice_get t i ≡ None → i < 32768
free-small t i found none =
    let free = is-free t i found in
    elim (cases_lt i (length t)) [
      | inl lt ↦ absurd (let d : Entry = record { destroyed = 0; segment = None } in none-some _ (sym none ∙ slice_get-get_or t i d lt))
      | inr past ↦ free.small (omega (arith, free.within, past))
    ]

-- the next identifier of an index that holds none was never issued
pub never : (t : List Entry) (id d : ℕ) (o : Option Entry) → slice_get t (id % 32768) ≡ o → IsEmpty d o → d ≡ id / 32768 → look t (pos id) ≡ Invalid
never t id d o is empty count = grind (arith, common_steps)
