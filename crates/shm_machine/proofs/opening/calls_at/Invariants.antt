use Rattle.std.proofs.Common.{◌≡◌, take}
use Rattle.shm_machine.specs.Opened.{calls_at}
use Rattle.shm_machine.proofs.opening.calls_at.Given as goal

abbrev pub invariant-loop-failure : goal.invariant-loop-failure
invariant-loop-failure l = l.calls.items ≡ calls_at l.area l.side l.is_write (take l.failure-index l.failures)
