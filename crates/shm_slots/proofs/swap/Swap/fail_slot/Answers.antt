use Rattle.shm_slots.proofs.Changes.{IsSwap-most, SameSlots-most, sizes-most}
use Rattle.shm_slots.proofs.swap.Swap.fail_slot.Goals as goal

pub invariant_of-self : goal.invariant_of-self
invariant_of-self g c = IsSwap-most _ _ _ _ c.index_mut.ensures.value c.fail_slot.ensures.rest c.self.invariant c.fail_slot.ensures.sound

pub returns-clause-sound : goal.returns-clause-sound
returns-clause-sound g c = invariant_of-self g c

pub returns-clause-sizes : goal.returns-clause-sizes
returns-clause-sizes g c = rw (← c.self.view_is) (sizes-most (record { areas = c.self.inside.areas.items; never_spent = c.self.inside.never_spent }) _ _ _ c.index_mut.ensures.value c.fail_slot.ensures.rest c.self.invariant c.fail_slot.ensures.sound)

pub returns-clause-kept : goal.returns-clause-kept
returns-clause-kept g c = rw (← c.self.view_is) (SameSlots-most (record { areas = c.self.inside.areas.items; never_spent = c.self.inside.never_spent }) _ _ _ c.index_mut.ensures.value c.fail_slot.ensures.rest)
