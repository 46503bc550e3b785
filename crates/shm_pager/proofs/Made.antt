-- What is seen of a new area.
use Rattle.std.proofs.Common.{◌≡◌, ℕ, zero, suc, List, ◌∷◌, drop, replicate, refl, ap, arith}
use Rattle.std.proofs.lemmas.Grind.{common_steps}
use Rattle.shm_pager_core.specs.Pages.{blank, last_count, pager_seen}
use Rattle.shm_pager.specs.Fuse.{fuse_most}
use Rattle.shm_pager.specs.Mirror.{left_alone, merged}
use Rattle.shm_pager.specs.Areas.{FailingCalls, IsOfKind, area_pages, failed_in, fails_at, most_in, calls_in, most_of_kind, calls_of_kind}
use Rattle.shm_pager.specs.declared.area.AreaPager.{AreaPager}
use Rattle.shm_pager.specs.declared.area.AreaPager.TheVariants.{Ram, Sparse, Mirror}
use Rattle.shm_pager.specs.declared.area.AreaKind.{AreaKind}
use Rattle.shm_pager.specs.declared.area.AreaKind.TheVariants as kinds

-- a new mirror shows its left side
pub merged-left : (n : ℕ) (page : List ℕ) (others : List (List ℕ)) → merged (replicate n left_alone) (replicate n page) others ≡ replicate n page
merged-left zero page others = refl
merged-left (suc n) page others = ap (λ (pages : List (List ℕ)). page ∷ pages) (merged-left n page (drop 1 others))

-- a sparse area's writes may fail for lack of memory, as often as they are made
sparse-most : (slots : ℕ) (calls : FailingCalls) → fuse_most (fails_at slots last_count calls) ≡ last_count
sparse-most slots calls = grind (arith, common_steps)

-- a new area has zeros in each slot, no failure, and the most failures of its kind
pub made-seen : (kind : AreaKind) (slots : ℕ) (left right : FailingCalls) (p : AreaPager) → IsOfKind kind slots left right p
    → pager_seen area_pages failed_in most_in calls_in p ≡ blank slots (most_of_kind kind left) (calls_of_kind kind left right)
made-seen kinds.Ram slots left right (Ram f) is = rw is refl
made-seen kinds.Sparse slots left right (Sparse f) is = rw (is, sparse-most) refl
made-seen kinds.Mirror slots left right (Mirror m) is = rw (is, merged-left) refl
made-seen kinds.Ram slots left right (Sparse f) is = absurd is
made-seen kinds.Ram slots left right (Mirror f) is = absurd is
made-seen kinds.Sparse slots left right (Ram f) is = absurd is
made-seen kinds.Sparse slots left right (Mirror f) is = absurd is
made-seen kinds.Mirror slots left right (Ram f) is = absurd is
made-seen kinds.Mirror slots left right (Sparse f) is = absurd is
