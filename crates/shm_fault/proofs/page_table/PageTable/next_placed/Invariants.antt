use Rattle.shm_fault.proofs.Names.{◌≡◌, ◌≤◌, ◌<◌, ◌-◌, ℕ, rec_at, no_page}
use Rattle.shm_fault.proofs.page_table.PageTable.next_placed.Given as goal

abbrev pub invariant-loop-page : goal.invariant-loop-page
invariant-loop-page l = (l.first ≤ l.page) × (l.page ≤ l.last)
    × ((page : ℕ) → l.first ≤ page → page < l.page → rec_at l.self.pages page ≡ no_page)

abbrev pub decreases-loop-page : goal.decreases-loop-page
decreases-loop-page l = l.last - l.page
