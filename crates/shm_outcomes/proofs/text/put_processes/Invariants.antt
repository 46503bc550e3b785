use Rattle.shm_outcomes.proofs.Names.{◌≡◌, ◌++◌, take, flat_map, process_text}
use Rattle.shm_outcomes.proofs.text.put_processes.Given as goal

abbrev pub invariant-loop-process : goal.invariant-loop-process
invariant-loop-process l = l.text.items ≡ l.initial.text.items ++ flat_map (process_text l.masks l.events) (take l.process-index l.script.processes)
