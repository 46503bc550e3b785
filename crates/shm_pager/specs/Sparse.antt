-- Pages that have memory only if they are not all zeros.
use Rattle.std.specs.Prelude.{ℕ, ◌≡◌, List, Option, Some, None, get_or}
use Rattle.shm_base.specs.Page.{zero_page}

-- the page in each slot, and how many writes have failed
pub record SparseView : Type 0 where
  pub pages : List (List ℕ)
  pub failed : ℕ

-- the page of a slot: zeros if it has no memory
abbrev pub page_behind : Option (List ℕ) → List ℕ
page_behind None = zero_page
page_behind (Some page) = page

-- no slot has memory for a page of zeros
abbrev pub NoZeros : List (Option (List ℕ)) → Type 0
NoZeros places = (slot : ℕ) (page : List ℕ) → get_or places slot None ≡ Some page → page ≡ zero_page → ⊥
