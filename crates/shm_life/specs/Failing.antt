-- A host makes reads and writes of swap areas fail while the machine runs. It is no call of a process.
use Rattle.std.specs.Prelude.{ℕ, ◌≡◌, ◌⊎◌, not, if◌then◌else◌, Option, Some, None, is_none, Result, MatchResult, OnErr, OnOk}
use Rattle.shm_base.specs.declared.paging.PageRef.{PageRef}
use Rattle.shm_pager_core.specs.declared.failing.ComingFailure.{ComingFailure}
use Rattle.shm_pager_core.specs.declared.failing.FailRefused.{FailRefused}
use Rattle.shm_slots.specs.Failing.{FailsInSwap, IsRefusedIn}
use Rattle.shm_slots.specs.View.{SwapView, area_at}
use Rattle.shm_fault.specs.Failing.{slot_failed}
use Rattle.shm_fault.specs.Segs.{rec_by}
use Rattle.shm_fault.specs.Store.{StoreView, held}
use Rattle.shm_segments.specs.Table.{live, page_there}
use Rattle.shm_life.specs.MachineView.{MachineView}
use Rattle.shm_life.specs.SystemState.{SystemState, seen}
use Rattle.shm_life.specs.declared.failing.PageNotFailed.{PageNotFailed}
use Rattle.shm_life.specs.declared.failing.PageNotFailed.TheVariants.{NoSegment, NoPage, NoSlot, HostMemory}

-- A call of an area to come fails: no byte changed, no page moved, and no count rose. Or it was refused, and nothing changed.
pub record IsFailing
    (area : ℕ) (c : ComingFailure) (before : SystemState) (result : Result (Unit {0}) FailRefused)
    (after : SystemState) : Type 0 where
  pub fails : OnOk result (FailsInSwap c area before.memory.swap after.memory.swap)
  pub rest : after ≡ record before { memory = record before.memory { swap = after.memory.swap } }
  pub held : held after.memory ≡ held before.memory
  pub refused : OnErr result (after ≡ before)
  pub cause : IsRefusedIn (area_at before.memory.swap area) c result

-- the areas once reads of this page's slot fail
abbrev pub page_failed : PageRef → StoreView → SwapView
page_failed r m = slot_failed (rec_by m.segs r).slot m.swap

-- why reads of a page's slot can't be made to fail, if the host refuses no memory
abbrev pub page_refusal : MachineView → PageRef → Option PageNotFailed
page_refusal s r =
    if is_none (live s.flat.table r.seg) then Some NoSegment
    else if not (page_there s.flat.table r.seg r.page) then Some NoPage
    else if is_none (rec_by s.memory.segs r).slot then Some NoSlot
    else None

abbrev pub IsRefusedPage : {A : Type 0} → PageRef → MachineView → Result A PageNotFailed → Type 0
IsRefusedPage r s result =
    MatchResult result (λ _. page_refusal s r ≡ None)
    (λ e. (page_refusal s r ≡ Some e) ⊎ ((e ≡ HostMemory) × (page_refusal s r ≡ None)))

-- the same for reads of the slot in which a page lies
pub record FailsPage
    (r : PageRef) (before : SystemState) (result : Result (Unit {0}) PageNotFailed) (after : SystemState) : Type 0 where
  pub fails : OnOk result (after.memory.swap ≡ page_failed r before.memory)
  pub rest : after ≡ record before { memory = record before.memory { swap = after.memory.swap } }
  pub held : held after.memory ≡ held before.memory
  pub refused : OnErr result (after ≡ before)
  pub cause : IsRefusedPage r (seen before) result
