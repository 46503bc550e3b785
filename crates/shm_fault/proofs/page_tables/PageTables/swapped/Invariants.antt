use Rattle.shm_fault.proofs.Names.{◌≡◌, take, sum_by}
use Rattle.shm_fault.proofs.Untouched.{swapped_of}
use Rattle.shm_fault.proofs.page_tables.PageTables.swapped.Given as goal

abbrev pub invariant-loop-table : goal.invariant-loop-table
invariant-loop-table l = l.count ≡ sum_by swapped_of (take l.table-index l.table-items)
