use Rattle.std.proofs.Common.{arith}
use Rattle.shm_slots.proofs.Changes.{area_within, area-set, IsSwap-off, GoesOn-off, total-off, sizes-off}
use Rattle.shm_slots.specs.View.{off}
use Rattle.shm_slots.proofs.swap.Swap.turn_off.Goals as goal

pub invariant_of-self : goal.invariant_of-self
invariant_of-self g c =
    IsSwap-off _ _ _ _ c.index_mut.ensures.value c.turn_off.ensures.gone c.self.invariant c.turn_off.ensures.sound

pub returns-clause-goes_on : goal.returns-clause-goes_on
returns-clause-goes_on g c = rw (← c.self.view_is) (GoesOn-off _ _ _ _ c.index_mut.ensures.value c.turn_off.ensures.gone c.self.invariant (omega (arith, area_within _ _ _ c.self.view_is c.requires.there)))

pub returns-clause-failures : goal.returns-clause-failures
returns-clause-failures g c = rw (← c.self.view_is) (total-off _ _ _ _ c.index_mut.ensures.value c.turn_off.ensures.gone _)

pub returns-clause-sizes : goal.returns-clause-sizes
returns-clause-sizes g c = rw (← c.self.view_is) (sizes-off (record { areas = c.self.inside.areas.items; never_spent = c.self.inside.never_spent }) _ _ _ c.index_mut.ensures.value c.turn_off.ensures.gone)

pub returns-clause-sound : goal.returns-clause-sound
returns-clause-sound g c = invariant_of-self g c

pub returns-clause-gone : goal.returns-clause-gone
returns-clause-gone g c = area-set off _ _ _ _ _ c.self.view_is c.index_mut.ensures.value c.requires.there c.turn_off.ensures.gone

pub index_mut-requires : goal.index_mut-requires
index_mut-requires g c = omega (arith, area_within _ _ _ c.self.view_is c.requires.there)
