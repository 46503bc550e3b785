use Rattle.shm_threads.proofs.Names.{◌≡◌, All, map, take, IsFresh, IsKeptAs, pid_of_strand, pid_in}
use Rattle.shm_threads.proofs.strand.strands.Given as goal

-- one for each of the first processes
abbrev pub invariant-loop-process : goal.invariant-loop-process
invariant-loop-process l = record {
  pids : map pid_of_strand l.strands.items ≡ map pid_in (take l.process-index l.script.processes);
  fresh : All (IsFresh l.callers) l.strands.items;
  kept : All (IsKeptAs l.is_kept) l.strands.items;
}
