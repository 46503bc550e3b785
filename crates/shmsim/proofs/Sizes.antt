-- A run over the areas that the words name.
use Rattle.std.specs.Prelude.{◌≡◌, ℕ, List, Option, Result, length, map}
use Rattle.std.proofs.Common.{subst}
use Rattle.shm_pager.specs.Areas.{area_pages, failed_in, most_in, calls_in}
use Rattle.shm_pager.specs.declared.area.AreaPager.{AreaPager}
use Rattle.shm_slots.specs.View.{SwapView}
use Rattle.shm_program.specs.Areas.{areas_named, size_of}
use Rattle.shm_program.specs.Runs.{handed_in}
use Rattle.shm_program.specs.declared.fault.RunFault.{RunFault}
use Rattle.shm_program.specs.declared.options.SwapWord.{SwapWord}
use Rattle.shm_program.proofs.Sizes.{as-named}
use Rattle.shmsim.specs.Runs.{IsRun}
use Rattle.shmsim.specs.declared.command.Mode.{Mode}

-- a run over the pagers of the words is one over the areas that they name
pub run-named : (mode : Mode) (pagers : List AreaPager) (swaps : List SwapWord) (ran : Result (Unit {0}) RunFault) (input rest old new : Option (List ℕ))
    → handed_in area_pages failed_in most_in calls_in pagers ≡ areas_named swaps → IsRun mode failed_in (handed_in area_pages failed_in most_in calls_in pagers) ran input rest old new (map (λ p. length (area_pages p)) pagers)
    → IsRun mode failed_in (areas_named swaps) ran input rest old new (map size_of swaps)
run-named mode pagers swaps ran input rest old new seen is =
    let sized = subst (λ (areas : List ℕ). IsRun mode failed_in (handed_in area_pages failed_in most_in calls_in pagers) ran input rest old new areas) (as-named area_pages failed_in most_in calls_in pagers swaps seen) is in
    subst (λ (swap : SwapView). IsRun mode failed_in swap ran input rest old new (map size_of swaps)) seen sized
