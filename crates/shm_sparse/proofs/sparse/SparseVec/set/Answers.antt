use Rattle.std.proofs.Common.{◌≡◌, ◌≢◌, ◌∙◌, ◌+◌, ◌-◌, ◌*◌, ◌%◌, ◌/◌, ◌<◌, ◌≤◌, ℕ, set, length, length-set, vec_capacity, sym, ap, arith}
use Rattle.shm_sparse.specs.Sparse.{AreRuns, item_at, no_place, place_at, runs_for}
use Rattle.shm_sparse.proofs.Runs.{first-fits, fits-padded, item-fits, reaches-padded, runs-filled, runs-padded}
use Rattle.shm_sparse.proofs.Items.{get-filled, item-changed, item-is, length-filled, length-items, same-padded, set-items}
use Rattle.shm_sparse.proofs.sparse.SparseVec.set.Given.{Over}
use Rattle.shm_sparse.proofs.sparse.SparseVec.set.Goals as goal
use Rattle.shm_sparse.proofs.sparse.SparseVec.set.Goals.{After-fill, After-fill-2}

there : (g : Over) (c : After-fill g) → c.args.index < c.self.inside.count
there g c =
    let t = c.self.inside in
    rw (← c.self.view_is, length-items (item_at t.other t.runs.items t.stored.items) 0 t.count) at c.requires

fits : (g : Over) (c : After-fill g) → length c.fill.new.items.items ≤ runs_for c.self.inside.count
fits g c = let lt = there g c in rw c.fill.ensures.items (fits-padded c.self.inside.runs.items (c.args.index / 256) (runs_for c.self.inside.count) (omega (arith, lt)) c.self.invariant.1)

pub fill-requires : goal.fill-requires
fill-requires g c =
    let t = c.self.inside in
    let lt = rw (← c.self.view_is, length-items (item_at t.other t.runs.items t.stored.items) 0 t.count) at c.requires in
    omega (arith, lt, c.self.invariant.2)

pub store_run-place-requires-clause-there : goal.store_run-place-requires-clause-there
store_run-place-requires-clause-there g c = rw c.fill.ensures.items (reaches-padded c.self.inside.runs.items (c.args.index / 256))

pub store_run-place-requires-clause-runs : goal.store_run-place-requires-clause-runs
store_run-place-requires-clause-runs g c =
    let t = c.self.inside in
    rw c.fill.ensures.items (runs-padded t.runs.items (c.args.index / 256 + 1 - length t.runs.items) (length t.stored.items) c.self.invariant.0)

pub store_run-place-requires-clause-room : goal.store_run-place-requires-clause-room
store_run-place-requires-clause-room g c =
    let f = fits g (goal.at.store_run-place-requires-clause-room g c).After-fill in
    let lt = there g (goal.at.store_run-place-requires-clause-room g c).After-fill in
    first-fits c.self.inside.count (length c.fill.new.items.items) (vec_capacity c.self.inside.stored) (omega (arith, lt)) f c.self.invariant.3

pub store_run-place-requires-clause-few : goal.store_run-place-requires-clause-few
store_run-place-requires-clause-few g c = let f = fits g (goal.at.store_run-place-requires-clause-few g c).After-fill in omega (arith, f, c.self.invariant.4)

pub fill-requires-2 : goal.fill-requires-2
fill-requires-2 g c =
    let o = (goal.at.fill-requires-2 g c).After-fill in
    let n = c.store_run-place.new in
    let e = c.store_run-place.ensures in
    let i = c.args.index in
    let at = c.store_run-place.result * 256 + i % 256 in
    let is : place_at n.runs.items (i / 256) ≢ no_place = λ none. e.stored (sym e.place ∙ none) in
    item-fits n.runs.items (length n.stored.items) c.self.inside.count i at (vec_capacity n.stored) (there g o) is (omega (arith, e.place)) e.runs (rw e.count (fits g o)) (omega (arith, c.self.invariant.3, e.room))

-- the items as far as they are stored now
filled : (g : Over) (c : After-fill-2 g) → AreRuns c.store_run-place.new.runs.items (length c.fill-2.new.items.items)
filled g c =
    let n = c.store_run-place.new in
    let e = c.store_run-place.ensures in
    let i = c.args.index in
    let at = c.store_run-place.result * 256 + i % 256 in
    let is : place_at n.runs.items (i / 256) ≢ no_place = λ none. e.stored (sym e.place ∙ none) in
    let long : length c.fill-2.new.items.items ≡ length n.stored.items + (at + 1 - length n.stored.items) = ap length c.fill-2.ensures.items ∙ length-filled n.stored.items (at + 1 - length n.stored.items) c.self.inside.other in
    rw long (runs-filled n.runs.items (length n.stored.items) (i / 256) at is (omega (arith, e.place)) e.runs)

-- the others are as they were
same : (g : Over) (c : After-fill-2 g) (j : ℕ) → item_at c.self.inside.other c.store_run-place.new.runs.items c.fill-2.new.items.items j ≡ item_at c.self.inside.other c.self.inside.runs.items c.self.inside.stored.items j
same g c j =
    let t = c.self.inside in
    let n = c.store_run-place.new in
    let e = c.store_run-place.ensures in
    let i = c.args.index in
    let at = c.store_run-place.result * 256 + i % 256 in
    rw c.fill-2.ensures.items (get-filled t.other n.stored.items (at + 1 - length n.stored.items) (256 * place_at n.runs.items (j / 256) + j % 256))
    ∙ e.same j ∙ rw c.fill.ensures.items (same-padded t.other t.runs.items t.stored.items (i / 256 + 1 - length t.runs.items) j)

pub invariant_of-self : goal.invariant_of-self
invariant_of-self g c =
    let t = c.self.inside in
    let n = c.store_run-place.new in
    let e = c.store_run-place.ensures in
    let o = (goal.at.invariant_of-self g c).After-fill in
    let p = (goal.at.invariant_of-self g c).After-fill-2 in
    let lt = there g o in
    let f = fits g o in
    let i = c.args.index in
    let at = c.store_run-place.result * 256 + i % 256 in
    let is : place_at n.runs.items (i / 256) ≢ no_place = λ none. e.stored (sym e.place ∙ none) in
    let here : at ≡ 256 * place_at n.runs.items (i / 256) + i % 256 = omega (arith, e.place) in (
      rw (length-set c.fill-2.new.items.items at c.args.item) (filled g p),
      rw e.count f,
      omega (arith, c.self.invariant.2, c.fill.ensures.room, e.place_room),
      omega (arith, c.self.invariant.3, e.room, c.fill-2.ensures.room),
      c.self.invariant.4,
      λ index past.
          item-changed t.other n.runs.items c.fill-2.new.items.items i at c.args.item (filled g p) is here index (λ same. omega (arith, lt, past, same))
          ∙ same g p index ∙ c.self.invariant.5 index past,
    )

pub returns : goal.returns
returns g c =
    let t = c.self.inside in
    let n = c.store_run-place.new in
    let e = c.store_run-place.ensures in
    let lt = there g (goal.at.returns g c).After-fill in
    let p = (goal.at.returns g c).After-fill-2 in
    let i = c.args.index in
    let at = c.store_run-place.result * 256 + i % 256 in
    let stored = c.fill-2.new.items.items in
    let is : place_at n.runs.items (i / 256) ≢ no_place = λ none. e.stored (sym e.place ∙ none) in
    let here : at ≡ 256 * place_at n.runs.items (i / 256) + i % 256 = omega (arith, e.place) in
    let long : length stored ≡ length n.stored.items + (at + 1 - length n.stored.items) = ap length c.fill-2.ensures.items ∙ length-filled n.stored.items (at + 1 - length n.stored.items) t.other in
    let before = item_at t.other t.runs.items t.stored.items in
    let after = item_at t.other n.runs.items (set stored at c.args.item) in
    rw (← c.self.view_is) (ap (λ items. record { other = t.other; items = items }) (set-items before after t.count i c.args.item lt
    (item-is t.other n.runs.items stored i at c.args.item (filled g p) is here (omega (arith, long)))
    (λ j other. item-changed t.other n.runs.items stored i at c.args.item (filled g p) is here j other ∙ same g p j)))
