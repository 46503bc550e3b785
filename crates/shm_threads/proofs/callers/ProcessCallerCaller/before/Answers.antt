use Rattle.shm_threads.proofs.Names.{inr}
use Rattle.shm_threads.proofs.Placing.{declared-at}
use Rattle.shm_threads.proofs.callers.ProcessCallerCaller.before.Goals as goal

pub expire-requires-clause-has : goal.expire-requires-clause-has
expire-requires-clause-has g c =
    let now = c.args.self.now in
    inr (declared-at g.O.Origin.script.processes now.index now.pid now.declared, c.requires)
