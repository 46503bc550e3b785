use Rattle.shm_ids.proofs.Names.{refl, arith, common_steps}
use Rattle.shm_ids.proofs.Steps.{Sound-new}
use Rattle.shm_ids.proofs.table.IdTable.new.Goals as goal

pub invariant_of-result : goal.invariant_of-result
invariant_of-result g c = rw c.new.ensures.items (Sound-new _ _ c.new-2.ensures.free (λ q. grind (arith, common_steps, c.new-3.ensures.empty)), refl)
