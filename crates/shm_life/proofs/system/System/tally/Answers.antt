use Rattle.shm_life.proofs.system.System.tally.Goals as goal

pub returns-clause-counted : goal.returns-clause-counted
returns-clause-counted g c = rw (← c.store.ensures.value) c.tally-pages.ensures.counted
