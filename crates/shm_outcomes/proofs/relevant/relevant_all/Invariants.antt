use Rattle.shm_outcomes.proofs.Names.{◌≡◌, take, relevant_all}
use Rattle.shm_outcomes.proofs.relevant.relevant_all.Given as goal

abbrev pub invariant-loop-index : goal.invariant-loop-index
invariant-loop-index l = l.all.items ≡ relevant_all l.lines (take l.index l.processes) l.lists
