-- Pages of zeros, and slots that have no memory for them.
use Rattle.std.proofs.Common.{rules, ◌≡◌, ◌==◌, ◌↔◌, ◌<◌, ℕ, zero, suc, true, List, [], ◌∷◌, length, take, replicate, map, set, Option, Some, None, get_or, ◌≤◌, ◌+◌, length-set, refl, sym, ap, ◌∙◌, arith}
use Rattle.std.proofs.lemmas.Grind.{common_steps}
use Rattle.std.specs.List.{list_all}
use Rattle.std.proofs.lemmas.List.{map-set, take_all, length-map, get_or_default}
use Rattle.std.proofs.Math.ListN.{get_or-map as map-get_or}
use Rattle.shm_base.specs.Page.{zero_page}
use Rattle.shm_base.specs.Stored.{padded}
use Rattle.shm_pager.specs.Sparse.{page_behind, NoZeros}
use Rattle.shm_base.proofs.Stored.{length-padded, within-padded, fits-padded, get_or-padded, set-padded, unset-padded, padded-padded, padded-same, map-padded}

zeros-from_all : (xs : List ℕ) → list_all (λ b. b == 0) xs ≡ true → xs ≡ replicate (length xs) 0
zeros-from_all [] h = refl
zeros-from_all (zero ∷ xs) h = ap (λ ys. 0 ∷ ys) (zeros-from_all xs h)
zeros-from_all (suc x ∷ xs) h = absurd (search rules)

all-from_zeros : (n : ℕ) → list_all (λ b. b == 0) (replicate n 0) ≡ true
all-from_zeros zero = refl
all-from_zeros (suc n) = all-from_zeros n

-- a page is the page of zeros exactly if each of its bytes is zero
pub zero_page-from_all : (page : List ℕ) → length page ≡ 4096 → (list_all (λ b. b == 0) page ≡ true) ↔ (page ≡ zero_page)
unfolding zero_page
zero_page-from_all page whole = (
  λ h. zeros-from_all page h ∙ ap (λ n. replicate n 0) whole,
  λ e. ap (list_all (λ b. b == 0)) e ∙ all-from_zeros 4096,
)

pub pages-set : (places : List (Option (List ℕ))) (i : ℕ) (o : Option (List ℕ)) → map page_behind (set places i o) ≡ set (map page_behind places) i (page_behind o)
pages-set places i o = map-set page_behind places i o

pub pages-replicate : (n : ℕ) → map page_behind (replicate n None) ≡ replicate n zero_page
pages-replicate zero = refl
pages-replicate (suc n) = ap (λ xs. zero_page ∷ xs) (pages-replicate n)

-- all memory was returned
pub pages-wiped : (after : List (Option (List ℕ))) (n slots : ℕ) → length after ≡ n → n ≤ slots → take n after ≡ replicate n None
    → padded (map page_behind after) slots zero_page ≡ replicate slots zero_page
pages-wiped after n slots all few e = let blank : map page_behind after ≡ replicate n zero_page = ap (map page_behind) (sym (take_all n after (omega (arith, all))) ∙ e) ∙ pages-replicate n in rw blank (padded-same n slots zero_page few)

module _ (places : List (Option (List ℕ))) (slots slot : ℕ) where
  -- a stored slot changes
  pub shown-set : (o : Option (List ℕ)) → slot < length places → padded (map page_behind (set places slot o)) slots zero_page ≡ set (padded (map page_behind places) slots zero_page) slot (page_behind o)
  shown-set o stored = rw (pages-set places slot o) (set-padded (map page_behind places) slots slot (page_behind o) zero_page (rw (length-map places page_behind) stored))

  -- a slot's memory is returned
  pub shown-clear : padded (map page_behind (set places slot None)) slots zero_page ≡ set (padded (map page_behind places) slots zero_page) slot zero_page
  shown-clear = rw (pages-set places slot None) (unset-padded (map page_behind places) slots slot zero_page)

  pub shown-at : slot < slots → length places ≤ slots → get_or (padded (map page_behind places) slots zero_page) slot [] ≡ page_behind (get_or places slot None)
  shown-at there within =
      let size : length (padded (map page_behind places) slots zero_page) ≡ slots = length-padded (map page_behind places) slots zero_page (rw (length-map places page_behind) within) in
      get_or_default (padded (map page_behind places) slots zero_page) slot [] zero_page (rw size there)
      ∙ get_or-padded (map page_behind places) slots slot zero_page
      ∙ map-get_or page_behind places slot None

  pub shown-more : (m : ℕ) → m ≤ slots → length places ≤ slots → padded (map page_behind (padded places m None)) slots zero_page ≡ padded (map page_behind places) slots zero_page
  shown-more m few within = rw (map-padded page_behind places m None) (padded-padded (map page_behind places) m slots zero_page few (rw (length-map places page_behind) within))

-- memory with a page that is not zeros
pub NoZeros-set : (places : List (Option (List ℕ))) (i : ℕ) (room : List ℕ) → i < length places → NoZeros places → (room ≡ zero_page → ⊥) → NoZeros (set places i (Some room))
NoZeros-set places i room within before other slot found at zeros = grind (arith, common_steps)

-- the slots that are not stored have no memory
pub NoZeros-padded : (places : List (Option (List ℕ))) (m : ℕ) → NoZeros places → NoZeros (padded places m None)
NoZeros-padded places m before slot page found zeros = before slot page (sym (get_or-padded places m slot None) ∙ found) zeros

pub NoZeros-unset : (places : List (Option (List ℕ))) (i : ℕ) → NoZeros places → NoZeros (set places i None)
NoZeros-unset places i before slot page found zeros = grind (arith, common_steps)

-- a page that is not zeros is written to a slot, and the slots below it are stored too
module _ (places : List (Option (List ℕ))) (slots slot : ℕ) (page : List ℕ) (there : slot < slots) (few : length places ≤ slots) where
  pub put-shown : padded (map page_behind (set (padded places (slot + 1) None) slot (Some page))) slots zero_page ≡ set (padded (map page_behind places) slots zero_page) slot page
  put-shown =
      shown-set (padded places (slot + 1) None) slots slot (Some page) (within-padded places (slot + 1) slot None (omega arith))
      ∙ ap (λ pages. set pages slot page) (shown-more places slots slot (slot + 1) (omega (arith, there)) few)

  pub put-fits : length (set (padded places (slot + 1) None) slot (Some page)) ≤ slots
  put-fits = rw (length-set (padded places (slot + 1) None) slot (Some page)) (fits-padded places (slot + 1) slots None (omega (arith, there)) few)

  pub put-apart : NoZeros places → (page ≡ zero_page → ⊥) → NoZeros (set (padded places (slot + 1) None) slot (Some page))
  put-apart before apart = NoZeros-set (padded places (slot + 1) None) slot page (within-padded places (slot + 1) slot None (omega arith)) (NoZeros-padded places (slot + 1) before) apart

pub ruleset rooms = (shown-set, shown-clear, shown-at, shown-more, length-padded, length-map, NoZeros-set, NoZeros-padded, NoZeros-unset)
