use Rattle.shm_attach.proofs.Names.{arith, common_steps}
use Rattle.shm_attach.proofs.Accesses.{wanted_in-none}
use Rattle.shm_attach.proofs.spaces.Spaces.spans.Goals as goal

pub returns-in-None-clause-none : goal.returns-in-None-clause-none
returns-in-None-clause-none c = grind (arith, common_steps, wanted_in-none)

pub returns-in-Some-clause-spans : goal.returns-in-Some-clause-spans
returns-in-Some-clause-spans c = rw c.in-Some.ensures.pid at c.spans_of.ensures.spans
