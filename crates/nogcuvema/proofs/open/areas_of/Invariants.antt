use Rattle.nogcuvema.proofs.Names.{map, take, area_of}
use Rattle.std.proofs.Common.{◌≡◌}
use Rattle.nogcuvema.proofs.open.areas_of.Given as goal

abbrev pub invariant-loop-area : goal.invariant-loop-area
invariant-loop-area l = l.all.items ≡ map area_of (take l.area-index l.areas)
