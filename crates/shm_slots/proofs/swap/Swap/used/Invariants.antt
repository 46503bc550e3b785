use Rattle.std.proofs.Common.{◌≡◌, ◌≤◌, ◌*◌, ◌^◌, take, sum_by}
use Rattle.shm_slots.specs.View.{used_in}
use Rattle.shm_slots.proofs.swap.Swap.used.Given as goal

abbrev pub invariant-loop-area : goal.invariant-loop-area
invariant-loop-area g l = record {
  sum : l.total ≡ sum_by used_in (take l.area-index l.area-items);
  small : l.total ≤ l.area-index * 2 ^ 32;
}
