use Rattle.shm_outcomes.proofs.Complete.{AreSearched, left_of}
use Rattle.shm_outcomes.proofs.search.outcomes.Given as goal

abbrev pub invariant-levels : goal.invariant-levels
invariant-levels g l = AreSearched l.script (g.M.Engine.flat l.fn.machine) l.most l.level l.found

abbrev pub decreases-levels : goal.decreases-levels
decreases-levels g l = left_of l.most l.level
