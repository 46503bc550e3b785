use Rattle.std.proofs.Common.{arith}
use Rattle.std.proofs.lemmas.Grind.{common_steps}
use Rattle.shm_pager.proofs.Made.{merged-left}
use Rattle.shm_pager.proofs.area.AreaPager.new.Goals as goal

pub returns-in-Ok-clause-pages : goal.returns-in-Ok-clause-pages
returns-in-Ok-clause-pages c = grind (arith, common_steps, merged-left)
