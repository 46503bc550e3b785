use Rattle.shm_life.proofs.Names.{◌≡◌, ◌≤◌, ◌-◌, resident_below}
use Rattle.shm_life.proofs.residency.resident_of.Given as goal

abbrev pub invariant-loop-page : goal.invariant-loop-page
invariant-loop-page g l = (l.count ≡ resident_below l.fn.store l.fn.seg l.page) × (l.page ≤ l.fn.pages) × (l.count ≤ l.page)

abbrev pub decreases-loop-page : goal.decreases-loop-page
decreases-loop-page g l = l.pages - l.page
