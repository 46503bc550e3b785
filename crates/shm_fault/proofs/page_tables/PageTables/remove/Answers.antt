use Rattle.shm_fault.proofs.Names.{arith}
use Rattle.shm_fault.proofs.Entries.{index-there, out-there}
use Rattle.shm_fault.proofs.page_tables.PageTables.remove.Goals as goal

pub index_mut-requires : goal.index_mut-requires
index_mut-requires c = omega (arith, c.self.inside.tables.ok, index-there c.self.inside.tables.items c.self.invariant c.args.id c.place_of.result c.place_of.ensures (rw (← c.self.view_is) at c.requires))

pub returns : goal.returns
returns c = rw (← c.self.view_is) (out-there c.self.inside.tables.items c.self.invariant c.args.id c.place_of.result c.place_of.ensures (rw (← c.self.view_is) at c.requires))
