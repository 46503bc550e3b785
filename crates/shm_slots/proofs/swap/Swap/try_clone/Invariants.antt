use Rattle.std.proofs.Common.{◌≡◌, take}
use Rattle.shm_slots.proofs.swap.Swap.try_clone.Given as goal

abbrev pub invariant-loop-area : goal.invariant-loop-area
invariant-loop-area g l = l.areas.items ≡ take l.area-index l.area-items
