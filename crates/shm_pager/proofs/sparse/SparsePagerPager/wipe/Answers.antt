use Rattle.std.proofs.Common.{arith}
use Rattle.std.proofs.lemmas.Grind.{common_steps}
use Rattle.std.specs.Vec.{with_items}
use Rattle.std.proofs.lemmas.List.{with_items_is}
use Rattle.shm_pager.proofs.Rooms.{pages-wiped}
use Rattle.shm_pager.proofs.sparse.SparsePagerPager.wipe.Goals as goal

pub returns : goal.returns
returns c = grind (arith, common_steps, with_items, with_items_is, pages-wiped)
