use Rattle.shm_fault.proofs.Names.{take_all, arith, common_steps}
use Rattle.shm_fault.proofs.Untouched.{swapped-le, swapped-present}
use Rattle.shm_fault.proofs.page_tables.PageTables.swapped.Goals as goal

pub overflow_add-count : goal.overflow_add-count
overflow_add-count c = grind (arith, common_steps, swapped-le)

pub returns : goal.returns
returns c = rw (← c.self.view_is) (grind (arith, common_steps, swapped-present, take_all, c.loop-table.invariant))
