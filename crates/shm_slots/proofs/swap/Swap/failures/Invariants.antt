use Rattle.std.proofs.Common.{◌≡◌, take, min, sum_by, All}
use Rattle.shm_pager_core.specs.Pages.{last_count}
use Rattle.shm_slots.specs.View.{rise, IsCounted}
use Rattle.shm_slots.proofs.swap.Swap.failures.Given as goal

abbrev pub invariant-loop-area : goal.invariant-loop-area
invariant-loop-area g l = record {
  total : l.total ≡ min (sum_by rise (take l.area-index l.area-items)) last_count;
  counted : All (IsCounted g.P.Pager.failed) (take l.area-index l.area-items);
}
