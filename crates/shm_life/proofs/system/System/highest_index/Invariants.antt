use Rattle.shm_life.proofs.Names.{◌≡◌, ℕ, ◌≤◌, segment_in, None, slice_get}
use Rattle.shm_life.proofs.system.System.highest_index.Given as goal

-- no segment holds an index from here on
abbrev pub invariant-loop-index : goal.invariant-loop-index
invariant-loop-index g l = (i : ℕ) → l.index ≤ i → segment_in (slice_get l.self.machine.table i) ≡ None

abbrev pub decreases-loop-index : goal.decreases-loop-index
decreases-loop-index g l = l.index
