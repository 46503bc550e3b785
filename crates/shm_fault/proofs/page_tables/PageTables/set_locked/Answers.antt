use Rattle.shm_fault.proofs.Names.{◌∙◌, ◌≢◌, None, SegRec, find_seg, arith, present}
use Rattle.shm_fault.proofs.Entries.{index-there, seg-read, edit-read}
use Rattle.shm_fault.proofs.page_tables.PageTables.set_locked.Goals as goal

pub index_mut-requires : goal.index_mut-requires
index_mut-requires c = omega (arith, c.self.inside.tables.ok, index-there c.self.inside.tables.items c.self.invariant c.args.id c.place_of.result c.place_of.ensures (rw (← c.self.view_is) at c.requires))

pub unreachable-requires : goal.unreachable-requires
unreachable-requires c =
    let there : find_seg (present c.self.inside.tables.items) c.args.id ≢ None = rw (← c.self.view_is) at c.requires in
    there (seg-read c.self.inside.tables.items c.self.invariant c.args.id c.place_of.result c.place_of.ensures there c.index_mut.result.now c.index_mut.ensures.value ∙ c.in_default.is)

pub returns : goal.returns
returns c =
    let os = c.self.inside.tables.items in
    let there : find_seg (present os) c.args.id ≢ None = rw (← c.self.view_is) at c.requires in
    rw (c.set_locked.ensures, ← c.self.view_is)
    (edit-read os c.self.invariant c.args.id c.place_of.result c.place_of.ensures there c.index_mut.result.now c.index_mut.ensures.value c.in-Some.table c.in-Some.is (λ (g : SegRec). record g { locked = c.args.locked }))
