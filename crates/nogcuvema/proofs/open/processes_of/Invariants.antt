use Rattle.nogcuvema.proofs.Names.{map, take, process_of}
use Rattle.std.proofs.Common.{◌≡◌}
use Rattle.nogcuvema.proofs.open.processes_of.Given as goal

abbrev pub invariant-loop-process : goal.invariant-loop-process
invariant-loop-process l = l.all.items ≡ map process_of (take l.process-index l.processes)
