-- A view over the areas that the words name.
use Rattle.std.specs.Prelude.{◌≡◌, ℕ, List, Option, Result, length, map}
use Rattle.std.proofs.Common.{subst}
use Rattle.shm_pager.specs.Areas.{area_pages, failed_in, most_in, calls_in}
use Rattle.shm_pager.specs.declared.area.AreaPager.{AreaPager}
use Rattle.shm_slots.specs.View.{SwapView}
use Rattle.shm_program.specs.Areas.{areas_named, size_of}
use Rattle.shm_program.specs.Runs.{handed_in}
use Rattle.shm_program.specs.declared.options.SwapWord.{SwapWord}
use Rattle.shm_program.proofs.Sizes.{as-named}
use Rattle.shmview.specs.Runs.{IsView}
use Rattle.shmview.specs.declared.steps.Steps.{Steps}
use Rattle.shmview.specs.declared.stop.Stop.{Stop}

-- a view over the pagers of the words is one over the areas that they name
pub view-named : (asked : Option Steps) (pagers : List AreaPager) (swaps : List SwapWord) (ran : Result (Unit {0}) Stop) (input rest old new : Option (List ℕ))
    → handed_in area_pages failed_in most_in calls_in pagers ≡ areas_named swaps → IsView (handed_in area_pages failed_in most_in calls_in pagers) asked ran input rest old new (map (λ p. length (area_pages p)) pagers)
    → IsView (areas_named swaps) asked ran input rest old new (map size_of swaps)
view-named asked pagers swaps ran input rest old new seen is =
    let sized = subst (λ (areas : List ℕ). IsView (handed_in area_pages failed_in most_in calls_in pagers) asked ran input rest old new areas) (as-named area_pages failed_in most_in calls_in pagers swaps seen) is in
    subst (λ (swap : SwapView). IsView swap asked ran input rest old new (map size_of swaps)) seen sized
