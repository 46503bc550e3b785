use Rattle.std.proofs.Common.{take}
use Rattle.std.specs.Prelude.{All}
use Rattle.shmcheck.specs.Questioned.{IsUnmet}
use Rattle.shmcheck.proofs.asking.first_met.Given as goal

abbrev pub invariant-loop-finding : goal.invariant-loop-finding
invariant-loop-finding l = All (IsUnmet l.condition) (take l.finding-index l.found)
