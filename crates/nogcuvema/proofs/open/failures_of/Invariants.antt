use Rattle.nogcuvema.proofs.Names.{map, take, failure_of}
use Rattle.std.proofs.Common.{◌≡◌}
use Rattle.nogcuvema.proofs.open.failures_of.Given as goal

abbrev pub invariant-loop-failure : goal.invariant-loop-failure
invariant-loop-failure l = l.all.items ≡ map failure_of (take l.failure-index l.failures)
