use Rattle.std.specs.Prelude.{codes}
use Rattle.shm_print.proofs.Pushed.{pushed}
use Rattle.shm_print.proofs.event.push_reply.Goals as goal

pub returns-in-Done : goal.returns-in-Done
returns-in-Done c = rw c.in-Done.is (pushed c.push_str.result _ _ (codes "ok") c.push_str.ensures.bytes)
