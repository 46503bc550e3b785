use Rattle.shm_judge.proofs.Names.{◌≡◌, take, turns_of}
use Rattle.shm_judge.proofs.sampling.turns.Given as goal

abbrev pub invariant-loop-process : goal.invariant-loop-process
invariant-loop-process g l = l.all.items ≡ turns_of l.script l.run (take l.process-index l.script.processes)
