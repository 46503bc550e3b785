use Rattle.std.proofs.Common.{take}
use Rattle.shm_machine.specs.Opened.{AreMade}
use Rattle.shm_machine.proofs.opening.pagers_for.Given as goal

abbrev pub invariant-loop-index : goal.invariant-loop-index
invariant-loop-index l = AreMade l.failures 0 (take l.index l.areas) l.pagers.items
