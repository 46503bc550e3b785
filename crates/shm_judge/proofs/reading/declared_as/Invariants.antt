use Rattle.shm_judge.proofs.Names.{◌≡◌, drop, declared_as}
use Rattle.shm_judge.proofs.reading.declared_as.Given as goal

abbrev pub invariant-loop-process : goal.invariant-loop-process
invariant-loop-process l = declared_as l.processes l.number ≡ declared_as (drop l.process-index l.processes) l.number
