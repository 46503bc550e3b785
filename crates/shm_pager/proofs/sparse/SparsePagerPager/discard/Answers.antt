use Rattle.std.proofs.Common.{arith, length-set}
use Rattle.std.proofs.lemmas.Grind.{common_steps}
use Rattle.shm_pager.proofs.Rooms.{rooms}
use Rattle.shm_pager.proofs.sparse.SparsePagerPager.discard.Goals as goal

pub invariant_of-self : goal.invariant_of-self
invariant_of-self c = grind (arith, common_steps, rooms, length-set)

pub returns : goal.returns
returns c = grind (arith, common_steps, rooms)
