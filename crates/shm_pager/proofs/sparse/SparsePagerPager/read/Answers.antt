use Rattle.std.proofs.Common.{arith}
use Rattle.std.proofs.lemmas.Grind.{common_steps}
use Rattle.shm_pager.proofs.Rooms.{rooms}
use Rattle.shm_pager.proofs.sparse.SparsePagerPager.read.Goals as goal

pub returns-clause-page : goal.returns-clause-page
returns-clause-page c = grind (arith, common_steps, rooms)
