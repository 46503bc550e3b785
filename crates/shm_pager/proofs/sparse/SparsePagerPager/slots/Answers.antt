use Rattle.std.proofs.Common.{arith}
use Rattle.std.proofs.lemmas.Grind.{common_steps}
use Rattle.shm_pager.proofs.Rooms.{rooms}
use Rattle.shm_pager.proofs.sparse.SparsePagerPager.slots.Goals as goal

pub returns : goal.returns
returns c = grind (arith, common_steps, rooms)
