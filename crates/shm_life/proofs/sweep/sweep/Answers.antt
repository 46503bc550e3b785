use Rattle.shm_life.proofs.Names.{◌≡◌, drop, [], refl, sym, subst, ◌∙◌, drop_all, memory-refl, memory-trans, OrphansAmong, ends-refl, ends-trans}
use Rattle.shm_life.proofs.Orphans.{swept-none}
use Rattle.shm_life.proofs.Running.{sweeps-none, sweeps-trans, among-next, swept-well}
use Rattle.shm_life.proofs.sweep.sweep.Given.{Over}
use Rattle.shm_life.proofs.sweep.sweep.Goals as goal
use Rattle.shm_life.proofs.sweep.sweep.Goals.{After-loop-seg}

pub loop-seg-init : goal.loop-seg-init
loop-seg-init g c =
    let s = c.args.segments.now in
    (record { sweeps = sweeps-none c.args.spaces.now.runners s.table; keeps = memory-refl s.memory; ends = ends-refl s.memory; same_sizes = refl; translated = λ all. all }, c.requires.orphans)

pub loop-seg-preserved : goal.loop-seg-preserved
loop-seg-preserved g c =
    let s = c.args.segments.now in
    let rs = c.args.spaces.now.runners in
    let t = c.loop-seg.segments in
    let u = c.sweep_one.new.segments in
    let d = c.loop-seg.invariant.0 in
    let e = c.sweep_one.ensures in (
      record { sweeps = sweeps-trans rs s.table t.table u.table d.sweeps e.sweeps; keeps = memory-trans s.memory t.memory u.memory d.keeps e.keeps; ends = ends-trans s.memory t.memory u.memory d.ends e.ends; same_sizes = e.sizes ∙ d.same_sizes; translated = λ all. e.translated (d.translated all) },
      among-next rs t.table u.table c.args.lost.now c.loop-seg.seg-index 0 c.loop-seg-test.true c.loop-seg.invariant.1 e.fewer,
    )

-- all were tested
none : (g : Over) (c : After-loop-seg g) → OrphansAmong [] c.args.spaces.now.runners c.loop-seg.segments.table
none g c =
    let over : drop c.loop-seg.seg-index c.args.lost.now ≡ [] = drop_all c.loop-seg.seg-index c.args.lost.now c.loop-seg-test.false in
    subst (λ ids. OrphansAmong ids c.args.spaces.now.runners c.loop-seg.segments.table) over c.loop-seg.invariant.1

pub returns-clause-swept : goal.returns-clause-swept
returns-clause-swept g c = sym (swept-none c.args.spaces.now.runners c.loop-seg.segments.table (none g c)) ∙ c.loop-seg.invariant.0.sweeps.swept

pub returns-clause-well : goal.returns-clause-well
returns-clause-well g c = λ limits w. swept-well limits _ _ _ _ _ _ c.loop-seg.invariant.0 (none g c) w

pub returns-clause-keeps : goal.returns-clause-keeps
returns-clause-keeps g c = c.loop-seg.invariant.0.keeps

pub returns-clause-ends : goal.returns-clause-ends
returns-clause-ends g c = c.loop-seg.invariant.0.ends
