use Rattle.shm_program.proofs.Names.{take, AllZip, IsAreaOf}
use Rattle.shm_program.proofs.areas.areas_of.Given as goal

-- the pagers of the words so far
abbrev pub invariant-loop-swap : goal.invariant-loop-swap
invariant-loop-swap l = AllZip IsAreaOf (take l.swap-index l.swaps) l.pagers.items
