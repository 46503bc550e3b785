use Rattle.shm_fault.proofs.Names.{◌≤◌, ◌-◌, length}
use Rattle.shm_fault.proofs.Flushes.{Flushed}
use Rattle.shm_fault.proofs.store.PageStore.flush.Given as goal

abbrev pub invariant-loop-from : goal.invariant-loop-from
invariant-loop-from g l = Flushed l.n l.initial.self l.from l.self l.report.written l.report.failed × (l.from ≤ length l.initial.self.frames)

abbrev pub decreases-loop-from : goal.decreases-loop-from
decreases-loop-from g l = length l.initial.self.frames - l.from
