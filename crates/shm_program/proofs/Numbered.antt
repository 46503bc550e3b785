-- The items of a list with their numbers, one after another.
use Rattle.shm_program.proofs.Names.{◌≡◌, ℕ, zero, suc, ◌+◌, ◌-◌, List, [], ◌∷◌, ◌++◌, length, replicate, None, Option, refl, ap, ◌∙◌, PageRef, padded, numbered, slot_line}

-- slots that nobody owns have no line
none-numbered : (area i k : ℕ) → numbered (slot_line area) i (replicate k None) ≡ []
none-numbered area i zero = refl
none-numbered area i (suc k) = none-numbered area (i + 1) k

more-numbered : (area i k : ℕ) (owners : List (Option PageRef)) → numbered (slot_line area) i (owners ++ replicate k None) ≡ numbered (slot_line area) i owners
more-numbered area i k [] = none-numbered area i k
more-numbered area i k (o ∷ owners) = ap (λ t. slot_line area i o ++ t) (more-numbered area (i + 1) k owners)

pub numbered_padded : (area n : ℕ) (owners all : List (Option PageRef)) → all ≡ padded owners n None → numbered (slot_line area) 0 all ≡ numbered (slot_line area) 0 owners
numbered_padded area n owners all e = ap (numbered (slot_line area) 0) e ∙ more-numbered area 0 (n - length owners) owners
