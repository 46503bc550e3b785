use Rattle.shm_life.proofs.Names.{◌≡◌, ◌≤◌, ◌*◌, take, sum_by, away_in}
use Rattle.shm_life.proofs.residency.swapped_of.Given as goal

abbrev pub invariant-loop-area : goal.invariant-loop-area
invariant-loop-area g l =
    (l.count ≡ sum_by (away_in l.fn.store l.fn.seg) (take l.area l.fn.store.swap.areas)) × (l.count ≤ l.area * 268435456)
