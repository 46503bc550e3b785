use Rattle.shm_fault.proofs.Names.{MatchResult-from_err, ◌≡◌, ◌∙◌, ◌<◌, None, ap, length, SegRec, padded, IsIndexFree, present}
use Rattle.shm_fault.proofs.Entries.{indexed-added, present-added, present-padded}
use Rattle.shm_fault.proofs.page_tables.PageTables.add.Goals as goal

pub returns-in_err-reach-clause-err : goal.returns-in_err-reach-clause-err
returns-in_err-reach-clause-err c = MatchResult-from_err _ _ _ c.from_residual-in_err-reach.ensures.0 λ _.
    rw (← c.self.view_is) (ap present c.reach.ensures.items ∙ present-padded c.self.inside.tables.items (length c.reach.new.tables.items))

pub invariant_of-self-2 : goal.invariant_of-self-2
invariant_of-self-2 c =
    let os = c.self.inside.tables.items in
    let id : c.in_ok-table.table.id ≡ c.args.id = ap (λ (g : SegRec). g.id) c.in_ok-table.ensures in
    rw c.reach.ensures.items (indexed-added os c.self.invariant c.args.id c.place_of-place.result (length c.reach.new.tables.items) c.place_of-place.ensures c.in_ok-table.table id)

pub returns-clause-ok : goal.returns-clause-ok
returns-clause-ok c =
    let os = c.self.inside.tables.items in
    let n = length c.reach.new.tables.items in
    let id : c.in_ok-table.table.id ≡ c.args.id = ap (λ (g : SegRec). g.id) c.in_ok-table.ensures in
    let free : IsIndexFree (present os) c.args.id = rw (← c.self.view_is) at c.requires.new in
    let there : c.place_of-place.result < length (padded os n None) = rw (← c.reach.ensures.items) c.in_ok-reach.ensures.ok in
    rw (← c.self.view_is, c.reach.ensures.items, ← c.in_ok-table.ensures)
    (present-added os c.self.invariant c.args.id c.place_of-place.result n c.place_of-place.ensures c.in_ok-table.table id free there)
