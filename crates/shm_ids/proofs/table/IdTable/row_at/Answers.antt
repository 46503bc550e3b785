use Rattle.shm_ids.proofs.Names.{◌≡◌, arith, common_steps, entry_at}
use Rattle.shm_ids.proofs.table.IdTable.row_at.Goals as goal

pub listed-requires-clause-wear : goal.listed-requires-clause-wear
listed-requires-clause-wear g c =
    let read : c.in-Some.entry.now ≡ entry_at c.self.inside.entries.items c.args.index = grind (arith, common_steps) in
    rw read (c.self.invariant.0.identifiers.sequences c.args.index)
