use Rattle.std.proofs.Common.{sym}
use Rattle.shm_sparse.specs.Sparse.{item_at}
use Rattle.shm_sparse.proofs.Items.{length-items}
use Rattle.shm_sparse.proofs.sparse.SparseVec.len.Goals as goal

pub returns : goal.returns
returns g c =
    let t = c.self.inside in
    rw (← c.self.view_is) (sym (length-items (item_at t.other t.runs.items t.stored.items) 0 t.count))
