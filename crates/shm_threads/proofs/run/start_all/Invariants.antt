use Rattle.shm_threads.proofs.Names.{◌≤◌, length, vec_len, vec_capacity}
use Rattle.shm_threads.proofs.run.start_all.Given as goal

-- the list has room for each worker that may still start
abbrev pub invariant-loop-index : goal.invariant-loop-index
invariant-loop-index g l = record {
  few : vec_len l.handles ≤ l.index;
  room : length l.processes.items ≤ vec_capacity l.handles;
}
