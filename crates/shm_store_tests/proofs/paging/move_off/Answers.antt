use Rattle.std.proofs.lemmas.Grind.{common_steps}
use Rattle.std.proofs.Common.{arith}
use Rattle.shm_store_tests.proofs.Trials.{sized}
use Rattle.shm_store_tests.proofs.paging.move_off.Goals as goal

pub move_off-requires-clause-room : goal.move_off-requires-clause-room
move_off-requires-clause-room g c = grind (arith, common_steps, sized)
