use Rattle.std.proofs.Common.{◌≡◌, ◌/◌, ◌<◌, ◌≤◌, ℕ, arith}
use Rattle.shm_sparse.specs.Sparse.{no_place, place_at}
use Rattle.shm_sparse.proofs.Items.{unplaced}
use Rattle.shm_sparse.proofs.sparse.SparseVec.next_stored.Goals as goal

pub returns-in-Some-clause-over : goal.returns-in-Some-clause-over
returns-in-Some-clause-over g c =
    let t = c.self.inside in
    let none : (run : ℕ) → c.args.first / 256 ≤ run → run < c.in-Some.run' → place_at t.runs.items run ≡ no_place = rw c.deref.ensures.value at c.in-Some.ensures.some in
    rw (← c.self.view_is) (λ index on before.
    unplaced t.other t.runs.items t.stored.items t.count c.self.invariant.0 (omega (arith, c.self.invariant.1, c.self.invariant.4)) c.self.invariant.5 index
    (none (index / 256) (omega (arith, on)) (omega (arith, on, before, c.min.ensures, c.max.ensures))))

pub returns-in-None-clause-over : goal.returns-in-None-clause-over
returns-in-None-clause-over g c =
    let t = c.self.inside in
    let none : (run : ℕ) → c.args.first / 256 ≤ run → place_at t.runs.items run ≡ no_place = rw c.deref.ensures.value at c.in-None.ensures.none in
    rw (← c.self.view_is) (λ index on before.
    unplaced t.other t.runs.items t.stored.items t.count c.self.invariant.0 (omega (arith, c.self.invariant.1, c.self.invariant.4)) c.self.invariant.5 index (none (index / 256) (omega (arith, on))))
