use Rattle.shm_laws.proofs.Keeping.{keeps_laws}
use Rattle.shm_laws.proofs.laws.lawful.Goals as goal

pub returns-clause-laws : goal.returns-clause-laws
returns-clause-laws g c = let w = c.args.world.now in rw c.history.ensures.events (keeps_laws w.opening w.events w.machine c.history.ensures.legal)
