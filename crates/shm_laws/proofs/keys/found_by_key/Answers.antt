use Rattle.shm_laws.proofs.Keeping.{keys_lead_to_one}
use Rattle.shm_laws.proofs.keys.found_by_key.Goals as goal

pub returns-clause-law : goal.returns-clause-law
returns-clause-law g c = let w = c.args.world.now in rw c.history.ensures.events (keys_lead_to_one w.opening w.events w.machine c.history.ensures.legal)
