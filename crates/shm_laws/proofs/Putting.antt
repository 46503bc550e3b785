-- A byte after an access: what the last of its places put there, or what was there.
use Rattle.shm_laws.proofs.Names.{◌≡◌, ◌⊎◌, ℕ, suc, zero, ◌%◌, ◌<◌, List, [], ◌∷◌, length, replicate, Option, Some, slice_get, refl, sym, subst, ◌∙◌, inl, inr, arith, common_steps, none-some, Piece, Place, get-set_other, length-slice_set, Put}
use Rattle.shm_laws.proofs.Turning.{byte_in, puts_in, set-got}
use Rattle.shm_laws.proofs.Stepping.{over_put}

-- a place that is byte `at` of the segment at the index
pub record IsSpot (i at : ℕ) (p : Place) : Type 0 where
  pub index : p.seg % 32768 ≡ i
  pub here : p.at ≡ at

-- the last of the places that is it, and what it gets
pub record Hit (i at b : ℕ) (qs : List Place) (vs : List ℕ) : Type 0 where
  pub k : ℕ
  pub byte : slice_get vs k ≡ Some b
  pub spot : Place
  pub is : slice_get qs k ≡ Some spot
  pub hits : IsSpot i at spot
  pub last : (j : ℕ) (p : Place) → k < j → j < length vs → slice_get qs j ≡ Some p → IsSpot i at p → ⊥

abbrev pub Miss : ℕ → ℕ → List Place → List ℕ → Type 0
Miss i at qs vs = (k : ℕ) (p : Place) → k < length vs → slice_get qs k ≡ Some p → IsSpot i at p → ⊥

spot-cases : (i at : ℕ) (p : Place) → IsSpot i at p ⊎ (IsSpot i at p → ⊥)
spot-cases i at p = grind (arith, common_steps)

-- one byte that is put
byte-here : (i at b : ℕ) (p : Place) (v : ℕ) (bytes : List ℕ) → IsSpot i at p → slice_get (byte_in i p v bytes) at ≡ Some b → v ≡ b
byte-here i at b p v bytes s h = grind (arith, set-got)

byte-there : (i at b : ℕ) (p : Place) (v : ℕ) (bytes : List ℕ) → (IsSpot i at p → ⊥) → slice_get (byte_in i p v bytes) at ≡ Some b → slice_get bytes at ≡ Some b
byte-there i at b p v bytes other h = grind (arith, get-set_other)

hit-more : (i at b : ℕ) (p : Place) (v : ℕ) (qs : List Place) (vs : List ℕ) → Hit i at b qs vs → Hit i at b (p ∷ qs) (v ∷ vs)
hit-more i at b p v qs vs h = record { k = suc h.k; byte = h.byte; spot = h.spot; is = h.is; hits = h.hits; last = later }
  where
    later : (j : ℕ) (q : Place) → suc h.k < j → j < length (v ∷ vs) → slice_get (p ∷ qs) j ≡ Some q → IsSpot i at q → ⊥
    later zero q gt lt is s = omega (arith, gt)
    later (suc j) q gt lt is s = h.last j q (omega (arith, gt)) (omega (arith, lt)) is s

hit-first : (i at b : ℕ) (p : Place) (v : ℕ) (qs : List Place) (vs : List ℕ) → IsSpot i at p → v ≡ b → Miss i at qs vs → Hit i at b (p ∷ qs) (v ∷ vs)
hit-first i at b p v qs vs s same miss = grind (arith, common_steps)

miss-more : (i at : ℕ) (p : Place) (v : ℕ) (qs : List Place) (vs : List ℕ) → (IsSpot i at p → ⊥) → Miss i at qs vs → Miss i at (p ∷ qs) (v ∷ vs)
miss-more i at p v qs vs other miss zero q lt is s = let same : p ≡ q = cc is in other (subst (IsSpot i at) (sym same) s)
miss-more i at p v qs vs other miss (suc k) q lt is s = miss k q (omega (arith, lt)) is s

pub byte-after : (i at b : ℕ) (qs : List Place) (vs bytes : List ℕ) → slice_get (puts_in i qs vs bytes) at ≡ Some b
    → Hit i at b qs vs ⊎ (Miss i at qs vs × (slice_get bytes at ≡ Some b))
byte-after i at b [] vs bytes h = inr (λ k p lt is s. none-some p is, h)
byte-after i at b (p ∷ qs) [] bytes h = inr (λ k q lt is s. omega (arith, lt), h)
byte-after i at b (p ∷ qs) (v ∷ vs) bytes h = by (byte-after i at b qs vs (byte_in i p v bytes) h) (spot-cases i at p)
  where
    by : Hit i at b qs vs ⊎ (Miss i at qs vs × (slice_get (byte_in i p v bytes) at ≡ Some b)) → IsSpot i at p ⊎ (IsSpot i at p → ⊥)
        → Hit i at b (p ∷ qs) (v ∷ vs) ⊎ (Miss i at (p ∷ qs) (v ∷ vs) × (slice_get bytes at ≡ Some b))
    by (inl hit) s = inl (hit-more i at b p v qs vs hit)
    by (inr m) (inl s) = inl (hit-first i at b p v qs vs s (byte-here i at b p v bytes s m.1) m.0)
    by (inr m) (inr other) = inr (miss-more i at p v qs vs other m.0, byte-there i at b p v bytes other m.1)

-- the number stays the same
byte-length : (i : ℕ) (p : Place) (v : ℕ) (bytes : List ℕ) → length (byte_in i p v bytes) ≡ length bytes
byte-length i p v bytes = grind (arith, length-slice_set)

puts-length : (i : ℕ) (qs : List Place) (vs bytes : List ℕ) → length (puts_in i qs vs bytes) ≡ length bytes
puts-length i [] vs bytes = refl
puts-length i (p ∷ qs) [] bytes = refl
puts-length i (p ∷ qs) (v ∷ vs) bytes = puts-length i qs vs (byte_in i p v bytes) ∙ byte-length i p v bytes

pub over-length : (ps : List Piece) (o : Option Put) (i : ℕ) (bytes : List ℕ) → length (over_put ps o i bytes) ≡ length bytes
over-length ps o i bytes = grind (arith, puts-length)

pub zero-byte : (n at b : ℕ) → slice_get (replicate n 0) at ≡ Some b → b ≡ 0
zero-byte zero at b h = absurd (none-some b h)
zero-byte (suc n) zero b h = cc
zero-byte (suc n) (suc at) b h = zero-byte n at b h
