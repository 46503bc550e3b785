use Rattle.shm_life.proofs.Names.{◌≢◌, ap, refl, sym, ◌∙◌, SegmentsView, attach_count, change, destroyed, marked, memory-refl, ends-refl}
use Rattle.shm_life.proofs.Removing.{Removes, destroys, marks, removed-well, true-unnamed}
use Rattle.shm_life.proofs.sweep.remove.Given.{Over}
use Rattle.shm_life.proofs.sweep.remove.Goals as goal
use Rattle.shm_life.proofs.sweep.remove.Goals.{After-destroy, After-mark}

-- it has no pieces
gone : (g : Over) (c : After-destroy g) → Removes c.args.spaces.now.runners c.args.segments.now.table c.args.found.now c.requires.found c.requires.few (destroyed c.args.segments.now.table c.args.found.now.seg)
gone g c = destroys c.args.spaces.now.runners c.args.segments.now.table c.args.found.now c.requires.found c.requires.few (sym c.count.ensures.value ∙ c.if-count-eq0.true) c.requires.orphans

pub returns-then-count-eq0-clause-table : goal.returns-then-count-eq0-clause-table
returns-then-count-eq0-clause-table g c = c.destroy.ensures.table ∙ sym (gone g c).swept

pub returns-then-count-eq0-clause-well : goal.returns-then-count-eq0-clause-well
returns-then-count-eq0-clause-well g c = λ limits w.
    let e = c.destroy.ensures in
    let f = c.args.found.now in
    let m = c.args.segments.now.memory in
    let n = c.destroy.new.self.memory in
    let ts = c.args.spaces.now.translations in
    rw e.table
    (removed-well c.args.spaces.now.runners c.args.segments.now.table f c.requires.found c.requires.few (destroyed c.args.segments.now.table f.seg) limits ts m n (gone g c) e.keeps
    (true-unnamed ts m n f.seg (c.count.ensures.unnamed c.if-count-eq0.true) e.still) e.sizes e.ends w)

-- it has some
stays : (g : Over) (c : After-mark g) → Removes c.args.spaces.now.runners c.args.segments.now.table c.args.found.now c.requires.found c.requires.few (change c.args.segments.now.table c.args.found.now.seg marked)
stays g c =
    let some : attach_count c.args.spaces.now.runners c.args.found.now.seg ≢ 0 = λ e. c.if-count-eq0.false (c.count.ensures.value ∙ e) in
    marks c.args.spaces.now.runners c.args.segments.now.table c.args.found.now c.requires.found c.requires.few some c.requires.orphans

pub returns-else-count-eq0-clause-table : goal.returns-else-count-eq0-clause-table
returns-else-count-eq0-clause-table g c = ap (λ (v : SegmentsView). v.table) c.mark.ensures ∙ sym (stays g c).swept

pub returns-else-count-eq0-clause-well : goal.returns-else-count-eq0-clause-well
returns-else-count-eq0-clause-well g c = λ limits w.
    let m = c.args.segments.now.memory in
    rw c.mark.ensures
    (removed-well c.args.spaces.now.runners c.args.segments.now.table c.args.found.now c.requires.found c.requires.few (change c.args.segments.now.table c.args.found.now.seg marked) limits c.args.spaces.now.translations m m (stays g c)
    (memory-refl m) (λ all. all) refl (ends-refl m) w)
