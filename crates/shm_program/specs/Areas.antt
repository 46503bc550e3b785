-- The pager that is made for each word for a swap area.
use Rattle.std.specs.Prelude.{◌≡◌, ℕ, List, [], ◌∷◌, map}
use Rattle.shm_pager_core.specs.Pages.{PagerView, blank}
use Rattle.shm_pager.specs.Areas.{FailingCalls, IsOfKind, failed_in, calls_of_kind, most_of_kind}
use Rattle.shm_pager.specs.declared.area.AreaKind.{AreaKind}
use Rattle.shm_pager.specs.declared.area.AreaKind.TheVariants as kinds
use Rattle.shm_pager.specs.declared.area.AreaPager.{AreaPager}
use Rattle.shm_slots.specs.View.{SwapView, fresh, new_swap}
use Rattle.shm_program.specs.declared.options.SwapWord.{SwapWord}
use Rattle.shm_program.specs.declared.options.SwapWord.TheVariants.{Ram, Sparse, Mirror, FuseRead, FuseWrite}

-- a fuse is a ram area
abbrev pub kind_of : SwapWord → AreaKind
kind_of (Ram n) = kinds.Ram
kind_of (Sparse n) = kinds.Sparse
kind_of (Mirror n) = kinds.Mirror
kind_of (FuseRead n k) = kinds.Ram
kind_of (FuseWrite n k) = kinds.Ram

abbrev pub size_of : SwapWord → ℕ
size_of (Ram n) = n
size_of (Sparse n) = n
size_of (Mirror n) = n
size_of (FuseRead n k) = n
size_of (FuseWrite n k) = n

-- the places of the reads that fail, and of the writes
abbrev pub reads_of : SwapWord → List ℕ
reads_of (FuseRead n k) = k ∷ []
reads_of _ = []

abbrev pub writes_of : SwapWord → List ℕ
writes_of (FuseWrite n k) = k ∷ []
writes_of _ = []

abbrev pub calls_of : SwapWord → FailingCalls
calls_of swap = record { reads = reads_of swap; writes = writes_of swap }

-- no call fails
abbrev pub no_calls : FailingCalls
no_calls = record { reads = []; writes = [] }

-- the new area of a word: zeros in each slot, and no failure counted. Only the call that a fuse names will fail, and in a sparse
-- area writes for which the host refuses memory; no call of either side of a mirror will
abbrev pub IsAreaOf : SwapWord → AreaPager → Type 0
IsAreaOf swap p = IsOfKind (kind_of swap) (size_of swap) (calls_of swap) no_calls p × (failed_in p ≡ 0)

-- the most failures that its pager will count
abbrev pub most_of : SwapWord → ℕ
most_of swap = most_of_kind (kind_of swap) (calls_of swap)

-- its new pager as it is seen
abbrev pub blank_of : SwapWord → PagerView
blank_of swap = blank (size_of swap) (most_of swap) (calls_of_kind (kind_of swap) (calls_of swap) no_calls)

-- the swap areas that the words name, as they are passed in
abbrev pub areas_named : List SwapWord → SwapView
areas_named swaps = new_swap (map (λ (swap : SwapWord). fresh (blank_of swap)) swaps)
