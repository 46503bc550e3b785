use Rattle.std.proofs.Common.{[], ap, refl}
use Rattle.shm_sparse.specs.Sparse.{item_at}
use Rattle.shm_sparse.proofs.Items.{alike-items}
use Rattle.shm_sparse.proofs.sparse.SparseVec.new.Goals as goal

pub returns : goal.returns
returns g c =
    let other = c.args.other in
    rw (c.in_ok-with_capacity.ensures.items, c.in_ok-with_capacity-2.ensures.items)
    (ap (λ items. record { other = other; items = items }) (alike-items (item_at other [] []) 0 c.args.count other (λ i past. refl)))
