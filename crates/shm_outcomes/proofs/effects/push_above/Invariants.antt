use Rattle.shm_outcomes.proofs.Names.{◌≡◌, ◌++◌, take, filter, is_above}
use Rattle.shm_outcomes.proofs.effects.push_above.Given as goal

abbrev pub invariant-loop-other : goal.invariant-loop-other
invariant-loop-other l = l.all.items ≡ l.initial.all.items ++ filter (is_above l.write) (take l.other-index l.writes)
