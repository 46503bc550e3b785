use Rattle.std.proofs.Common.{◌≡◌, ◌/◌, arith, get_or}
use Rattle.std.proofs.lemmas.Grind.{common_steps}
use Rattle.shm_sparse.specs.Sparse.{no_place, place_at}
use Rattle.shm_sparse.proofs.Items.{read-item, unplaced}
use Rattle.shm_sparse.proofs.sparse.SparseVec.stored.Goals as goal

pub returns-in_err-place-clause-none : goal.returns-in_err-place-clause-none
returns-in_err-place-clause-none g c =
    let t = c.self.inside in
    let place : place_at t.runs.items (c.args.index / 256) ≡ no_place = grind (arith, common_steps) in
    let other : get_or c.args.self.now.items c.args.index c.args.self.now.other ≡ c.args.self.now.other =
    rw (← c.self.view_is) (unplaced t.other t.runs.items t.stored.items t.count c.self.invariant.0 (omega (arith, c.self.invariant.1, c.self.invariant.4)) c.self.invariant.5 c.args.index place) in
    grind (other, arith, common_steps)

pub returns-clause-some : goal.returns-clause-some
returns-clause-some g c =
    let t = c.self.inside in
    let i = c.args.index in
    let item = read-item t.other t.runs.items t.stored.items t.count i c.self.invariant.5 in
    let view = c.self.view_is in
    grind (item, view, arith, common_steps)

pub returns-clause-none : goal.returns-clause-none
returns-clause-none g c =
    let t = c.self.inside in
    let i = c.args.index in
    let item = read-item t.other t.runs.items t.stored.items t.count i c.self.invariant.5 in
    let view = c.self.view_is in
    grind (item, view, arith, common_steps)
