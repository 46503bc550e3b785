use Rattle.std.proofs.Common.{◌≡◌, ◌∙◌, ◌+◌, ◌-◌, ◌*◌, ◌/◌, length, ap, arith}
use Rattle.std.proofs.lemmas.List.{get_or_default}
use Rattle.shm_sparse.specs.Sparse.{no_place, place_at}
use Rattle.shm_sparse.proofs.Items.{length-filled, same-more}
use Rattle.shm_sparse.proofs.Runs.{few-stored, runs-more, unstored}
use Rattle.shm_sparse.proofs.sparse.store_run.Given.{Over}
use Rattle.shm_sparse.proofs.sparse.store_run.Goals as goal
use Rattle.shm_sparse.proofs.sparse.store_run.Goals.{After-len}

-- the run is not stored yet
new-run : (g : Over) (c : After-len g) → place_at c.args.runs.now.items c.args.run ≡ no_place
new-run g c =
    let there = get_or_default c.args.runs.now.items c.args.run c.index-known.result.now no_place c.requires.there in
    omega (arith, c.index-known.ensures, there, c.if-known.false)

pub fill-requires : goal.fill-requires
fill-requires g c =
    let few = unstored c.args.runs.now.items c.args.run c.requires.there (new-run g (goal.at.fill-requires g c).After-len) in
    let most = c.requires.runs.most in
    let least = c.requires.runs.least in
    omega (arith, few, most, least, c.requires.room, c.len.ensures, c.args.stored.now.ok)

pub returns-clause-runs : goal.returns-clause-runs
returns-clause-runs g c =
    let stored = c.args.stored.now.items in
    let none = new-run g (goal.at.returns-clause-runs g c).After-len in
    let old : c.len.result ≡ length stored = omega (arith, c.len.ensures, c.args.stored.now.ok) in
    let place = (c.len.result + 256 - 1) / 256 in
    let filled : length c.fill.new.items.items ≡ length stored + (place * 256 + 1 - length stored) = ap length c.fill.ensures.items ∙ length-filled stored (place * 256 + 1 - length stored) c.args.other in
    runs-more c.args.runs.now.items (length stored) c.args.run place (length c.fill.new.items.items) c.requires.there c.requires.few none c.requires.runs (omega (arith, old)) (omega (arith, old, filled))

pub returns-clause-same : goal.returns-clause-same
returns-clause-same g c =
    let stored = c.args.stored.now.items in
    let none = new-run g (goal.at.returns-clause-same g c).After-len in
    let old : c.len.result ≡ length stored = omega (arith, c.len.ensures, c.args.stored.now.ok) in
    let place = (c.len.result + 256 - 1) / 256 in
    let few = few-stored c.args.runs.now.items (length stored) c.requires.runs in
    λ index. rw c.fill.ensures.items (same-more c.args.other c.args.runs.now.items stored c.args.run place (place * 256 + 1 - length stored) index (omega (arith, few, c.requires.few)) (omega (arith, old)) c.requires.there none)
