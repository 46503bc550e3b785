-- Tables whose frames become known.
use Rattle.std.proofs.lemmas.Bool.Decides.{nat_tests}
use Rattle.shm_attach.proofs.Names.{◌≡◌, ℕ, ◌<◌, ◌≤◌, List, Option, None, length, get_or, set, ◌∙◌, arith, common_steps, get_or_past, PageRef, padded, get_or-padded, TableView, TrueTable, with_frame}

abbrev table_of : ℕ → ℕ → List (Option ℕ) → TableView
table_of seg count fs = record { seg = seg; count = count; frames = fs }

-- another frame for one page
pub true-set : (at : ℕ → ℕ → Option ℕ) (seg count : ℕ) (fs : List (Option ℕ)) (r : PageRef) (f : Option ℕ) → r.seg ≡ seg → r.page < length fs → TrueTable at (table_of seg count fs)
    → TrueTable (with_frame r f at) (table_of seg count (set fs r.page f))
true-set at seg count fs r f same there h = λ j lt. grind (arith, common_steps, h j)

-- the frames of the pages before one are known, and no other page is resident in the table
pub record KnownBelow (at : ℕ → Option ℕ) (page : ℕ) (fs : List (Option ℕ)) : Type 0 where
  pub known : (j : ℕ) → j < page → get_or fs j None ≡ at j
  pub rest : (j : ℕ) → page ≤ j → get_or fs j None ≡ None

-- pages that are not resident are known at once
pub known-over : (at : ℕ → Option ℕ) (first next : ℕ) (fs : List (Option ℕ)) → first ≤ next → ((page : ℕ) → first ≤ page → page < next → at page ≡ None) → KnownBelow at first fs → KnownBelow at next fs
known-over at first next fs on none k = grind (arith, common_steps, nat_tests)

-- the pages of a true table are known, and those that are new to it are not
pub known-first : (at : ℕ → Option ℕ) (n : ℕ) (fs : List (Option ℕ)) → ((j : ℕ) → j < length fs → get_or fs j None ≡ at j) → KnownBelow at (length fs) (padded fs n None)
known-first at n fs true =
    record {
      known = λ j lt. get_or-padded fs n j None ∙ true j lt;
      rest = λ j past. get_or-padded fs n j None ∙ get_or_past fs j None past;
    }
