use Rattle.shm_text.proofs.Names.{arith}
use Rattle.shm_text.proofs.script.FlushLine.new.Goals as goal

pub invariant_of-result : goal.invariant_of-result
invariant_of-result c = (omega arith, omega arith)
