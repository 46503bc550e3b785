use Rattle.shm_fault.proofs.Names.{arith, ◌≡◌, ◌∙◌, ◌≢◌, None, Some, SegRec, HasPage, find_seg, set, present}
use Rattle.shm_fault.proofs.Entries.{index-there, seg-read, edit-read, page-there}
use Rattle.shm_fault.proofs.page_tables.PageTables.set_page.Goals.{After-place_of, In-Some}
use Rattle.shm_fault.proofs.page_tables.PageTables.set_page.Goals as goal

there : (c : After-place_of) → find_seg (present c.self.inside.tables.items) c.args.page.seg ≢ None
there c = page-there _ c.args.page (rw (← c.self.view_is) at c.requires)

pub index_mut-requires : goal.index_mut-requires
index_mut-requires c = omega (arith, c.self.inside.tables.ok, index-there c.self.inside.tables.items c.self.invariant c.args.page.seg c.place_of.result c.place_of.ensures (there c))

-- the page's segment
own : (c : In-Some) → find_seg (present c.self.inside.tables.items) c.args.page.seg ≡ Some c.in-Some.table
own c =
    seg-read c.self.inside.tables.items c.self.invariant c.args.page.seg c.place_of.result c.place_of.ensures (page-there _ c.args.page (rw (← c.self.view_is) at c.requires)) c.index_mut.result.now c.index_mut.ensures.value ∙ c.in-Some.is

pub unreachable-requires : goal.unreachable-requires
unreachable-requires c =
    let place = (goal.at.unreachable-requires c).After-place_of in
    there place (seg-read c.self.inside.tables.items c.self.invariant c.args.page.seg c.place_of.result c.place_of.ensures (there place) c.index_mut.result.now c.index_mut.ensures.value ∙ c.in_default.is)

pub set_page-requires : goal.set_page-requires
set_page-requires c =
    let has : HasPage (present c.self.inside.tables.items) c.args.page = rw (← c.self.view_is) at c.requires in
    rw (own c) at has

pub returns : goal.returns
returns c =
    let os = c.self.inside.tables.items in
    let place = (goal.at.returns c).After-place_of in
    rw (c.set_page.ensures, ← c.self.view_is)
    (edit-read os c.self.invariant c.args.page.seg c.place_of.result c.place_of.ensures (there place) c.index_mut.result.now c.index_mut.ensures.value c.in-Some.table c.in-Some.is (λ (g : SegRec). record g { pages = set g.pages c.args.page.page c.args.rec }))
