use Rattle.shm_fault.proofs.Names.{◌≡◌, ◌≤◌, ◌-◌, ◌+◌, None, length, padded}
use Rattle.shm_fault.proofs.page_tables.reach.Given as goal

abbrev pub invariant-loop-tables : goal.invariant-loop-tables
invariant-loop-tables l = (l.tables.items ≡ padded l.initial.tables.items (length l.tables.items) None) × (length l.initial.tables.items ≤ length l.tables.items)

abbrev pub decreases-loop-tables : goal.decreases-loop-tables
decreases-loop-tables l = l.place + 1 - length l.tables.items
