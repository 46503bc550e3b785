use Rattle.std.proofs.Common.{Some, arith}
use Rattle.shm_slots.specs.View.{with_owner}
use Rattle.shm_slots.proofs.Counts.{IsLeastFree-first}
use Rattle.shm_slots.proofs.Changes.{area_within, area-set, IsSwap-owner, IsSteady-owner}
use Rattle.shm_slots.proofs.swap.Swap.take_free.Goals as goal

pub returns-clause-steady : goal.returns-clause-steady
returns-clause-steady g c =
    rw (← c.self.view_is) (IsSteady-owner _ _ _ _ c.index_mut.ensures.value _ _ _ c.take.ensures.taken c.self.invariant c.take.ensures.sound)

pub invariant_of-self : goal.invariant_of-self
invariant_of-self g c =
    IsSwap-owner _ _ _ _ c.index_mut.ensures.value _ _ _ c.take.ensures.taken c.self.invariant c.take.ensures.sound

pub returns-clause-sound : goal.returns-clause-sound
returns-clause-sound g c = invariant_of-self g c

pub take-requires : goal.take-requires
take-requires g c = IsLeastFree-first _ _ _ _ _ c.self.view_is c.index_mut.ensures.value c.self.invariant c.in_ok-slot.ensures

pub returns-in_err-slot-clause-found : goal.returns-in_err-slot-clause-found
returns-in_err-slot-clause-found g c = rw c.from_residual.ensures c.in_err-slot.ensures

pub returns-clause-found : goal.returns-clause-found
returns-clause-found g c = c.in_ok-slot.ensures

pub returns-clause-taken : goal.returns-clause-taken
returns-clause-taken g c =
    area-set (λ b. with_owner b c.in_ok-slot.slot.slot (Some c.args.owner)) _ _ _ _ _ c.self.view_is c.index_mut.ensures.value c.in_ok-slot.ensures.there.0 c.take.ensures.taken

pub index_mut-requires : goal.index_mut-requires
index_mut-requires g c = omega (arith, area_within _ _ _ c.self.view_is c.in_ok-slot.ensures.there.0)
