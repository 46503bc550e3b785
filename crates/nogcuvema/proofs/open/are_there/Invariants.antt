use Rattle.nogcuvema.proofs.Names.{are_there}
use Rattle.std.proofs.Common.{◌≡◌, drop}
use Rattle.nogcuvema.proofs.open.are_there.Given as goal

-- what is left decides
abbrev pub invariant-loop-failure : goal.invariant-loop-failure
invariant-loop-failure l = are_there l.areas l.failures ≡ are_there l.areas (drop l.failure-index l.failures)
