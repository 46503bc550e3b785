use Rattle.shm_fault.proofs.Areas.{IsCleaned}
use Rattle.shm_fault.proofs.store.PageStore.move_off.Given as goal

abbrev pub invariant-loop-slot : goal.invariant-loop-slot
invariant-loop-slot g l = IsCleaned l.area l.slot l.initial.self l.self
