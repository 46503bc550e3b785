use Rattle.shm_program.proofs.Names.{◌≡◌, ℕ, List, ◌++◌, length, Appends}
use Rattle.shm_program.proofs.ends.write_output.Given as goal

-- what was written so far
abbrev pub invariant-loop-rest : goal.invariant-loop-rest
invariant-loop-rest g l = (done : List ℕ) × (l.bytes ≡ done ++ l.rest) × Appends (g.W.Write.contents l.initial.writer) (g.W.Write.contents l.writer) done

abbrev pub decreases-loop-rest : goal.decreases-loop-rest
decreases-loop-rest g l = length l.rest
