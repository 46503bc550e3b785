use Rattle.shm_judge.proofs.Names.{◌≡◌, map, take, Process, own_answers}
use Rattle.shm_judge.proofs.reading.log_of.Given as goal

abbrev pub invariant-loop-process : goal.invariant-loop-process
invariant-loop-process l = l.processes.items ≡ map (λ (p : Process). own_answers l.entries p.pid) (take l.process-index l.script.processes)
