use Rattle.shm_outcomes.proofs.Names.{◌≡◌, take, hidden_outcome}
use Rattle.shm_outcomes.proofs.masking.hidden_lists.Given as goal

abbrev pub invariant-loop-one : goal.invariant-loop-one
invariant-loop-one l = l.all.items ≡ hidden_outcome (take l.one-index l.lists)
