use Rattle.shm_laws.proofs.Keeping.{goes_when_it_must}
use Rattle.shm_laws.proofs.removal.removed_in_time.Goals as goal

pub returns-clause-law : goal.returns-clause-law
returns-clause-law g c = let w = c.args.world.now in rw c.history.ensures.events (goes_when_it_must w.opening w.events w.machine c.history.ensures.legal)
