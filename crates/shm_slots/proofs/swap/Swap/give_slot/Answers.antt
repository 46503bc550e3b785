use Rattle.std.proofs.Common.{arith}
use Rattle.shm_slots.proofs.Changes.{area_within, slot_within, IsSwap-owner, IsSteady-owner}
use Rattle.shm_slots.proofs.swap.Swap.give_slot.Goals as goal

pub invariant_of-self : goal.invariant_of-self
invariant_of-self g c =
    IsSwap-owner _ _ _ _ c.index_mut.ensures.value _ _ _ c.give.ensures.rest c.self.invariant c.give.ensures.sound

pub returns-clause-steady : goal.returns-clause-steady
returns-clause-steady g c =
    rw (← c.self.view_is) (IsSteady-owner _ _ _ _ c.index_mut.ensures.value _ _ _ c.give.ensures.rest c.self.invariant c.give.ensures.sound)

pub returns-clause-sound : goal.returns-clause-sound
returns-clause-sound g c = invariant_of-self g c

pub give-requires : goal.give-requires
give-requires g c = slot_within _ _ _ _ _ c.self.view_is c.index_mut.ensures.value c.requires

pub index_mut-requires : goal.index_mut-requires
index_mut-requires g c = omega (arith, area_within _ _ _ c.self.view_is c.requires.0)
