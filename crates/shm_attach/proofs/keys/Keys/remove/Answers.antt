use Rattle.shm_attach.proofs.Names.{arith, common_steps}
use Rattle.shm_attach.proofs.ByIndex.{remove-key, within}
use Rattle.shm_attach.proofs.keys.Keys.remove.Goals as goal

pub index_mut-requires : goal.index_mut-requires
index_mut-requires c =
    let there = within c.self.inside.entries.items c.args.seg (rw (← c.self.view_is) at c.requires) in
    grind (arith, common_steps, there)

pub returns : goal.returns
returns c id =
    rw (c.place_of.ensures, ← c.self.view_is) (remove-key c.self.inside.entries.items c.args.seg (rw (← c.self.view_is) at c.requires) id)
