-- What a lookup finds, and the entry at the index.
use Rattle.shm_laws.proofs.Names.{Machine, Stands, ◌≡◌, ℕ, ◌/◌, ◌%◌, ◌<◌, pos, List, Option, Some, None, slice_get, refl, arith, common_steps, Segment, Entry, Look, Found, Removed, look_entry, look, identifier, destroyed_at}

abbrev pub holds : ℕ → Segment → Option Entry
holds d x = Some (record { destroyed = d; segment = Some x })

abbrev pub bare_entry : ℕ → Option Entry
bare_entry d = Some (record { destroyed = d; segment = None })

pub entry-found : (k q i : ℕ) (x : Segment) (o : Option Entry) → look_entry k q o ≡ Found i x → (i ≡ k) × (o ≡ holds q x)
entry-found k q i x o h = grind (arith, common_steps)

-- so a number that finds something is the identifier of its index
pub found-own : (t : List Entry) (m i : ℕ) (x : Segment) → look t (pos m) ≡ Found i x → (i ≡ m % 32768) × (identifier i (destroyed_at t i) ≡ m)
found-own t m i x is = grind (arith, common_steps)

-- the segment of an identifier
pub stands-at : (t : List Entry) (id : ℕ) (x : Segment) → look t (pos id) ≡ Found (id % 32768) x → slice_get t (id % 32768) ≡ holds (id / 32768) x
stands-at t id x h = (entry-found (id % 32768) (id / 32768) (id % 32768) x (slice_get t (id % 32768)) h).1

pub at-stands : (t : List Entry) (id : ℕ) (x : Segment) → slice_get t (id % 32768) ≡ holds (id / 32768) x → look t (pos id) ≡ Found (id % 32768) x
at-stands t id x is = grind (arith, common_steps)

-- and a destroyed one
pub at-gone : (t : List Entry) (id d : ℕ) (o : Option Segment) → slice_get t (id % 32768) ≡ Some (record { destroyed = d; segment = o }) → id / 32768 < d → look t (pos id) ≡ Removed
at-gone t id d o is lt = grind (arith, common_steps)

-- one segment at most exists under an identifier
pub one-segment : (s : Machine) (id : ℕ) (x y : Segment) → Stands s id x → Stands s id y → x ≡ y
one-segment s id x y a b = cc

pub not-both : (l : Look) (i : ℕ) (x : Segment) → l ≡ Removed → l ≡ Found i x → ⊥
not-both l i x gone found = cc

-- an identifier of a destroyed segment
pub record GoneAt (q : ℕ) (o : Option Entry) : Type 0 where
  pub destroyed : ℕ
  pub segment : Option Segment
  pub at : o ≡ Some (record { destroyed = destroyed; segment = segment })
  pub past : q < destroyed

pub entry-gone : (k q : ℕ) (o : Option Entry) → look_entry k q o ≡ Removed → GoneAt q o
entry-gone k q None h = absurd (grind arith)
entry-gone k q (Some e) h = record { destroyed = e.destroyed; segment = e.segment; at = refl; past = grind (arith, common_steps) }
