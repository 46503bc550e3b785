use Rattle.shm_text.proofs.Names.{arith, nat_tests, common_steps}
use Rattle.std.proofs.lemmas.List.{drop-replicate}
use Rattle.shm_text.proofs.variables.number_in.Goals as goal

pub returns : goal.returns
returns c = rw (c.from_le_bytes.ensures, c.copy_from_slice.ensures.after, drop-replicate) (grind (arith, nat_tests, common_steps))
