use Rattle.shm_attach.proofs.ByIndex.{key-same}
use Rattle.shm_attach.proofs.keys.Keys.reserve.Goals as goal

pub returns-clause-keys : goal.returns-clause-keys
returns-clause-keys c id = rw (← c.self.view_is) (key-same c.self.inside.entries.items c.grow.new.entries.items c.grow.ensures.same id)
