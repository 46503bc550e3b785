use Rattle.shm_slots.proofs.Counts.{used_slots-full_but}
use Rattle.shm_slots.proofs.swap.Swap.take_outside.Goals as goal

pub returns-clause-full : goal.returns-clause-full
returns-clause-full g c = used_slots-full_but c.take_free.result _ _ _ _ c.take_free.ensures.found c.take_free.ensures.taken c.take_free.ensures.sound
