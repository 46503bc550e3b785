-- What is found under an identifier after each change.
use Rattle.shm_fault.proofs.Names.{◌≡◌, ◌≢◌, ℕ, Bool, [], ◌∷◌, List, None, refl, arith, common_steps, Held, find_held, bytes_of, without, with_lock}

-- DROPPED

pub find-without_same : (hs : List Held) (id : ℕ) → find_held (without hs id) id ≡ None
find-without_same [] id = refl
find-without_same (g ∷ gs) id = grind (arith, common_steps, (find-without_same gs id))

pub find-without_other : (hs : List Held) (id at : ℕ) → at ≢ id → find_held (without hs id) at ≡ find_held hs at
find-without_other [] id at ne = refl
find-without_other (g ∷ gs) id at ne = grind (arith, common_steps, (find-without_other gs id at ne))

-- LOCKED OR NOT

-- the bytes stay
pub bytes_of-lock : (hs : List Held) (id : ℕ) (b : Bool) (at : ℕ) → bytes_of (with_lock hs id b) at ≡ bytes_of hs at
bytes_of-lock [] id b at = refl
bytes_of-lock (g ∷ gs) id b at = grind (arith, common_steps, (bytes_of-lock gs id b at))
