use Rattle.shm_areas.proofs.Names.{◌≡◌, drop, is_reserved, ranges_of}
use Rattle.shm_areas.proofs.beside.is_reserved.Given as goal

abbrev pub invariant-loop-range : goal.invariant-loop-range
invariant-loop-range l =
    is_reserved (ranges_of l.pid l.ranges) l.from l.to ≡ is_reserved (ranges_of l.pid (drop l.range-index l.ranges)) l.from l.to
