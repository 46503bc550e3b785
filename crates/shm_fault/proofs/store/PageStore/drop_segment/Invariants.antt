use Rattle.shm_fault.proofs.Names.{◌≤◌, ◌-◌, Dropped}
use Rattle.shm_fault.proofs.store.PageStore.drop_segment.Given as goal

abbrev pub invariant-loop-page : goal.invariant-loop-page
invariant-loop-page g l = Dropped l.seg l.page l.initial.self l.self × (l.page ≤ l.count)

abbrev pub decreases-loop-page : goal.decreases-loop-page
decreases-loop-page g l = l.count - l.page
