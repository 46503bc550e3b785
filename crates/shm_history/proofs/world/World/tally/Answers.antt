use Rattle.shm_history.proofs.world.World.tally.Goals as goal

pub returns-clause-counted : goal.returns-clause-counted
returns-clause-counted g c = rw (← c.self.view_is) c.tally.ensures.counted
