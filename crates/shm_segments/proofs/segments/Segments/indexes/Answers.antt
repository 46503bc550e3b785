use Rattle.shm_segments.proofs.Names.{arith, length-flat, common_steps}
use Rattle.shm_segments.proofs.segments.Segments.indexes.Goals as goal

pub returns : goal.returns
returns g c = grind (arith, common_steps, length-flat, c.self.view_is)
