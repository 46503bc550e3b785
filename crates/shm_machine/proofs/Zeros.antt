-- A buffer of zeros that grows by zeros.
use Rattle.std.proofs.Common.{◌≡◌, ℕ, ◌+◌, ◌≤◌, ◌∙◌, List, ◌++◌, length, take, replicate, ap, sym}
use Rattle.std.proofs.lemmas.List.{length-replicate, replicate-append-replicate, take-replicate}

-- a list of zeros, followed by the first bytes of a page of zeros
module _ (old new page : List ℕ) (size more : ℕ) (zeros : old ≡ replicate (length old) 0) (whole : page ≡ replicate size 0) (few : more ≤ size) (is : new ≡ old ++ take more page) where
  all : new ≡ replicate (length old + more) 0
  all =
      is
      ∙ ap (λ (xs : List ℕ). xs ++ take more page) zeros
      ∙ ap (λ (xs : List ℕ). replicate (length old) 0 ++ xs) (ap (take more) whole ∙ take-replicate more size 0 few)
      ∙ replicate-append-replicate (length old) more 0

  pub longer : length new ≡ length old + more
  longer = ap length all ∙ length-replicate (length old + more) 0

  pub still-zeros : new ≡ replicate (length new) 0
  still-zeros = all ∙ ap (λ (n : ℕ). replicate n 0) (sym longer)
