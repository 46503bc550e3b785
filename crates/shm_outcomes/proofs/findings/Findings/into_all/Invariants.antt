use Rattle.shm_outcomes.proofs.Names.{◌≡◌, ◌++◌, map}
use Rattle.shm_outcomes.proofs.Placing.{found_as}
use Rattle.shm_outcomes.proofs.findings.Findings.into_all.Given as goal

abbrev pub invariant-loop-outcome : goal.invariant-loop-outcome
invariant-loop-outcome l = l.found.items ++ map (found_as (λ v. v.items)) l.outcome-iterator ≡ l.fn.self
