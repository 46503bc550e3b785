use Rattle.shm_fault.proofs.Names.{sym, ◌∙◌, seen}
use Rattle.shm_fault.proofs.Tally.{resident-frames, dirty-frames, used-slots}
use Rattle.shm_fault.proofs.store.PageStore.tally.Goals as goal

pub returns-clause-resident : goal.returns-clause-resident
returns-clause-resident g c = rw (← c.self.view_is) (c.resident.ensures.count ∙ sym (resident-frames (seen c.self.inside) c.self.invariant.0.apart c.self.invariant.0.tied))

pub returns-clause-dirty : goal.returns-clause-dirty
returns-clause-dirty g c = rw (← c.self.view_is) (c.dirty.ensures.count ∙ sym (dirty-frames (seen c.self.inside) c.self.invariant.0.apart c.self.invariant.0.tied))

pub returns-clause-used : goal.returns-clause-used
returns-clause-used g c = rw (← c.self.view_is) (c.used.ensures ∙ sym (used-slots (seen c.self.inside) c.self.invariant.0.apart c.self.invariant.0.tied))

pub returns-clause-counted : goal.returns-clause-counted
returns-clause-counted g c = rw (← c.self.view_is) c.failures.ensures.counted
