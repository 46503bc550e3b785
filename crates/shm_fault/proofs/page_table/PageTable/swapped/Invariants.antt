use Rattle.shm_fault.proofs.Names.{◌≡◌, ◌≤◌, ◌-◌, take, count_by, is_swapped}
use Rattle.shm_fault.proofs.page_table.PageTable.swapped.Given as goal

abbrev pub invariant-loop-page : goal.invariant-loop-page
invariant-loop-page l = (l.count ≡ count_by is_swapped (take l.page l.self.pages)) × (l.count ≤ l.page) × (l.page ≤ l.end)

abbrev pub decreases-loop-page : goal.decreases-loop-page
decreases-loop-page l = l.end - l.page
