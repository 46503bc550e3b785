use Rattle.std.proofs.Common.{arith}
use Rattle.shm_sparse.proofs.Items.{items-extended, items-kept}
use Rattle.shm_sparse.proofs.sparse.SparseVec.extend.Goals as goal

pub returns-then-count-self-clause-ok : goal.returns-then-count-self-clause-ok
returns-then-count-self-clause-ok g c =
    let t = c.self.inside in
    rw (← c.self.view_is) (items-kept t.other t.runs.items t.stored.items t.count c.args.count (omega (arith, c.if-count-self.true)))

pub returns-clause-ok : goal.returns-clause-ok
returns-clause-ok g c =
    let t = c.self.inside in
    rw (← c.self.view_is, c.reserve_exact.ensures.items, c.reserve_exact-2.ensures.items)
    (items-extended t.other t.runs.items t.stored.items t.count c.args.count (omega (arith, c.if-count-self.false)) c.self.invariant.5)
