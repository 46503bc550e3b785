use Rattle.shm_segments.proofs.Names.{to_z, of_z, w32, arith, held, common_steps}
use Rattle.shm_segments.proofs.Looking.{found-under, key-some, key-none, none-mapped}
use Rattle.shm_segments.proofs.segments.Segments.find_key.Goals as goal

pub returns-clause-found : goal.returns-clause-found
returns-clause-found g c = grind (arith, common_steps, to_z, w32, of_z, found-under, held)

pub returns-clause-some : goal.returns-clause-some
returns-clause-some g c = grind (arith, common_steps, to_z, w32, of_z, found-under, held, key-some, c.in_ok-id.id, c.self.invariant.kept.agree, c.self.invariant.kept.sizes)

pub returns-in_err-id-clause-none : goal.returns-in_err-id-clause-none
returns-in_err-id-clause-none g c = grind (arith, common_steps, none-mapped, c.in_err-id.is, c.self.view_is, key-none, c.requires)
