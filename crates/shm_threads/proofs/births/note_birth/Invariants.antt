use Rattle.shm_threads.proofs.Names.{◌≡◌, ◌++◌, map, take, drop, with_birth}
use Rattle.shm_threads.proofs.births.note_birth.Given as goal

abbrev pub invariant-loop-process : goal.invariant-loop-process
invariant-loop-process l = l.process-items ≡ map (with_birth l.pid) (take l.process-index l.fn.processes.items) ++ drop l.process-index l.fn.processes.items
