use Rattle.shm_outcomes.proofs.Hiding.{AreHidden}
use Rattle.shm_outcomes.proofs.masking.masked_outcomes.Given as goal

abbrev pub invariant-loop-finding : goal.invariant-loop-finding
invariant-loop-finding l = AreHidden l.found l.finding-index l.masked
