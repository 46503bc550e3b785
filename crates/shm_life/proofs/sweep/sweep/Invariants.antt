use Rattle.shm_life.proofs.Names.{drop, OrphansAmong}
use Rattle.shm_life.proofs.Running.{SweptTo}
use Rattle.shm_life.proofs.sweep.sweep.Given as goal

abbrev pub invariant-loop-seg : goal.invariant-loop-seg
invariant-loop-seg g l = SweptTo l.spaces.runners l.spaces.translations l.initial.segments.table l.segments.table l.initial.segments.memory l.segments.memory × OrphansAmong (drop l.seg-index l.lost) l.spaces.runners l.segments.table
