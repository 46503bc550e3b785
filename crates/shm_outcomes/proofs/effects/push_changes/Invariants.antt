use Rattle.shm_outcomes.proofs.Names.{◌≡◌, ◌++◌, map, take, wrote}
use Rattle.shm_outcomes.proofs.effects.push_changes.Given as goal

abbrev pub invariant-loop-write : goal.invariant-loop-write
invariant-loop-write l = l.past.items ≡ l.initial.past.items ++ map wrote (take l.write-index l.writes)
