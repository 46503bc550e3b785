use Rattle.shm_laws.proofs.Keeping.{have_their_pages}
use Rattle.shm_laws.proofs.sizes.pages_kept.Goals as goal

pub returns-clause-law : goal.returns-clause-law
returns-clause-law g c = let w = c.args.world.now in rw c.history.ensures.events (have_their_pages w.opening w.events w.machine c.history.ensures.legal)
