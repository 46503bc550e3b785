use Rattle.shm_life.proofs.Names.{Machine, sizes, sym, ne_eqb}
use Rattle.shm_life.proofs.Running.{answered_as}
use Rattle.shm_life.proofs.kernel.Kernel.shmget.Goals as goal

pub returns-in-Some-clause-served : goal.returns-in-Some-clause-served
returns-in-Some-clause-served g c =
    let m : Machine = record { limits = c.self.inside.limits; areas = sizes c.self.inside.segments.memory.swap; table = c.self.inside.segments.table; runners = c.self.inside.spaces.runners; host_ranges = c.self.inside.host_ranges.items } in
    answered_as _ _ _ _ (rw (← c.self.view_is, ne_eqb c.args.key 0 c.if-key-eq0.false, c.in-Some.ensures.some) (c.get.ensures m c.args.time c.args.key c.in-Some.ensures.found (sym c.rules.ensures.value)))
