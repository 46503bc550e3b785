-- The slots of the areas that the words name.
use Rattle.shm_program.proofs.Names.{◌≡◌, ℕ, List, [], ◌∷◌, length, map, ap, ◌∙◌, refl, sym, length-replicate, SideCalls, pager_seen, AreaView, SwapView, fresh, areas_named, blank_of, size_of, handed_in, SwapWord}

abbrev slots : AreaView → ℕ
slots a = length a.pages

module _ {P : Type 0} (content : P → List (List ℕ)) (failed most : P → ℕ) (calls : P → List SideCalls) where
  handed : (pagers : List P) → map slots (map (λ p. fresh (pager_seen content failed most calls p)) pagers) ≡ map (λ p. length (content p)) pagers
  handed [] = refl
  handed (p ∷ ps) = ap (λ (rest : List ℕ). length (content p) ∷ rest) (handed ps)

  named : (swaps : List SwapWord) → map slots (map (λ (s : SwapWord). fresh (blank_of s)) swaps) ≡ map size_of swaps
  named [] = refl
  named (s ∷ ss) = rw (length-replicate) (ap (λ (rest : List ℕ). size_of s ∷ rest) (named ss))

  -- if the pagers that are passed in are those of the words, they have as many slots
  pub as-named : (pagers : List P) (swaps : List SwapWord) → handed_in content failed most calls pagers ≡ areas_named swaps → map (λ p. length (content p)) pagers ≡ map size_of swaps
  as-named pagers swaps seen = sym (handed pagers) ∙ ap (λ (v : SwapView). map slots v.areas) seen ∙ named swaps
