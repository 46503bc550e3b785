use Rattle.std.proofs.Common.{◌≡◌, ◌≤◌, ◌*◌, ◌^◌, take, map, sum_by}
use Rattle.shm_slots.specs.View.{size_of, slots_in}
use Rattle.shm_slots.proofs.swap.Swap.capacity.Given as goal

abbrev pub invariant-loop-area : goal.invariant-loop-area
invariant-loop-area g l = record {
  sum : l.total ≡ sum_by slots_in (map size_of (take l.area-index l.area-items));
  small : l.total ≤ l.area-index * 2 ^ 32;
}
