use Rattle.shm_life.proofs.Names.{◌≡◌, drop, position_from}
use Rattle.shm_life.proofs.reserving.position_of.Given as goal

abbrev pub invariant-loop-i : goal.invariant-loop-i
invariant-loop-i l =
    position_from 0 l.range l.ranges ≡ position_from l.i l.range (drop l.i l.ranges)
