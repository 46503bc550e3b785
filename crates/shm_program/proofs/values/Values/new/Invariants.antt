use Rattle.shm_program.proofs.Names.{◌≡◌, map, take, fresh_holder}
use Rattle.shm_program.proofs.values.Values.new.Given as goal

abbrev pub invariant-loop-process : goal.invariant-loop-process
invariant-loop-process l = l.holders.items ≡ map fresh_holder (take l.process-index l.processes)
