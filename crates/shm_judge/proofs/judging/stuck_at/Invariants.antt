use Rattle.shm_judge.proofs.Names.{◌≡◌, take, flat_map, newest}
use Rattle.shm_judge.proofs.judging.stuck_at.Given as goal

abbrev pub invariant-loop-one : goal.invariant-loop-one
invariant-loop-one g l = l.next.items ≡ flat_map (newest l.run) (take l.one-index l.one-items)
