-- Zeros after the bytes of a chunk.
use Rattle.std.proofs.Common.{arith, ◌≡◌, ◌≤◌, ◌-◌, ◌++◌, ℕ, List, refl, take, drop, replicate, length, length-append}
use Rattle.std.proofs.lemmas.List.{length-replicate, drop-replicate}
use Rattle.std.proofs.Math.Seq.{take-append_seam}

pub padded : (bs xs : List ℕ) (n most : ℕ) → n ≡ length bs → n ≤ most → xs ≡ bs
    → (length (xs ++ drop (length bs) (replicate most 0)) ≡ most)
    × (xs ++ drop (length bs) (replicate most 0) ≡ take n (xs ++ drop (length bs) (replicate most 0)) ++ replicate (most - n) 0)
padded bs xs n most size few same =
    rw (same, size, drop-replicate, length-append, length-replicate, take-append_seam) (omega (arith, size, few), refl)
