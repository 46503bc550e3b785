use Rattle.shm_areas.proofs.Names.{◌≡◌, drop, bare_all, ranges_of, free_from, free_from_ends, lesser_of}
use Rattle.shm_areas.proofs.space.Space.choose_beside.Given as goal

abbrev pub invariant-loop-range : goal.invariant-loop-range
invariant-loop-range l =
    let ps = bare_all l.self.pieces in
    let reserved = ranges_of l.pid l.ranges in
    lesser_of l.best (free_from_ends ps reserved l.pages l.pid (drop l.range-index l.ranges))
    ≡ lesser_of (free_from ps reserved l.pages 0) (free_from_ends ps reserved l.pages l.pid l.ranges)
