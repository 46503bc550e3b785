use Rattle.shm_fault.proofs.Names.{arith, common_steps}
use Rattle.shm_fault.proofs.Counting.{raised-trans}
use Rattle.shm_fault.proofs.store.PageStore.flush_frame.Goals as goal

pub returns-in-Ok : goal.returns-in-Ok
returns-in-Ok g c = grind (arith, common_steps, raised-trans)
