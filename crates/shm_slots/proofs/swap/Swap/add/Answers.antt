use Rattle.shm_slots.proofs.Changes.{IsSwap-more}
use Rattle.shm_slots.proofs.swap.Swap.add.Goals as goal

pub invariant_of-self-2 : goal.invariant_of-self-2
invariant_of-self-2 g c =
    rw (c.in_ok-push.ensures.items, c.stays_unspent-never_spent.ensures)
    (IsSwap-more (record { areas = c.self.inside.areas.items; never_spent = c.self.inside.never_spent }) c.in_ok-area.area c.self.invariant c.in_ok-area.ensures.sound (rw (← c.self.view_is) at c.requires.few))

pub returns-clause-sound : goal.returns-clause-sound
returns-clause-sound g c =
    rw (c.in_ok-push.ensures.items, c.stays_unspent-never_spent.ensures)
    (IsSwap-more (record { areas = c.self.inside.areas.items; never_spent = c.self.inside.never_spent }) c.in_ok-area.area c.self.invariant c.in_ok-area.ensures.sound (rw (← c.self.view_is) at c.requires.few))
