use Rattle.shm_judge.proofs.Names.{◌≡◌, ◌++◌, take, successors}
use Rattle.shm_judge.proofs.judging.push_successors.Given as goal

abbrev pub invariant-loop-process : goal.invariant-loop-process
invariant-loop-process g l = l.offered.items ≡ l.initial.offered.items ++ successors l.script (take l.process-index l.script.processes) l.node
