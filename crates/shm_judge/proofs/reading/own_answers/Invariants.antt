use Rattle.shm_judge.proofs.Names.{◌≡◌, take, own_answers}
use Rattle.shm_judge.proofs.reading.own_answers.Given as goal

abbrev pub invariant-loop-entry : goal.invariant-loop-entry
invariant-loop-entry l = l.answers.items ≡ own_answers (take l.entry-index l.entries) l.pid
