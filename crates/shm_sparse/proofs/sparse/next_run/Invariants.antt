use Rattle.std.proofs.Common.{◌≡◌, ◌≤◌, ◌<◌, ℕ}
use Rattle.shm_sparse.specs.Sparse.{no_place, place_at}
use Rattle.shm_sparse.proofs.sparse.next_run.Given as goal

abbrev pub invariant-loop-run : goal.invariant-loop-run
invariant-loop-run l = (l.from ≤ l.run) × ((run : ℕ) → l.from ≤ run → run < l.run → place_at l.runs run ≡ no_place)
