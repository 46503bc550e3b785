use Rattle.std.proofs.Common.{rules}
use Rattle.shm_history.proofs.Cells.{stores_as}
use Rattle.shm_history.proofs.gauges.Keeper.store.Goals as goal

pub swap_as-requires : goal.swap_as-requires
swap_as-requires g c =
    (search rules, (search rules, (search rules, stores_as _ _ c.self.inside.last c.args.next _ _ c.self.invariant.1 c.words.ensures (search rules) c.requires.bounds)))
