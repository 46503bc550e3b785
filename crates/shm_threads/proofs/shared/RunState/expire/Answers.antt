use Rattle.shm_threads.proofs.Names.{IsEnded}
use Rattle.shm_threads.proofs.Least.{least-kept}
use Rattle.shm_threads.proofs.shared.RunState.expire.Goals as goal

pub invariant_of-self : goal.invariant_of-self
invariant_of-self g c =
    let rest = c.self.invariant.1 in
    let mine : IsEnded g.O.Origin.answers g.O.Origin.script c.args.pid = record { call = c.args.n; has = c.requires.has; ended = c.requires.ended } in
    (c.self.invariant.0, (rest.0, (rest.1.0, (rw c.least.ensures (least-kept (IsEnded g.O.Origin.answers g.O.Origin.script) c.args.pid c.self.inside.expired mine rest.1.1.0), rest.1.1.1))))
