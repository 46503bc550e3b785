use Rattle.shm_fault.proofs.Names.{◌≡◌, refl, arith, count_by_id, Dropped, IsStoreSound, but, seen, Drops}
use Rattle.shm_fault.proofs.Skipped.{skipped-but}
use Rattle.shm_fault.proofs.Pages.{count-same, found-still}
use Rattle.shm_fault.proofs.Whole.{held-there}
use Rattle.shm_fault.proofs.Drops.{dropped-none, drops}
use Rattle.shm_fault.proofs.store.PageStore.drop_segment.Goals.{After-remove}
use Rattle.shm_fault.proofs.store.PageStore.drop_segment.Goals as goal

-- all pages are nowhere
whole : (g : _) (c : After-remove g) → Dropped c.args.seg (count_by_id c.args.self.now.segs c.args.seg) c.args.self.now (seen c.self-2.inside)
whole g c =
    let last : c.loop-page.page ≡ c.count-count.result = omega (arith, c.loop-page-test.false, c.loop-page.invariant.1) in
    let is : c.count-count.result ≡ count_by_id c.args.self.now.segs c.args.seg = rw (← c.self.view_is) c.count-count.ensures in
    rw (← c.self-2.view_is, last, is) at c.loop-page.invariant.0

done : (g : _) (c : After-remove g) → Drops c.args.seg c.args.self.now (record (seen c.self-2.inside) { segs = c.remove.new.self })
done g c =
    let s = c.args.self.now in
    rw c.remove.ensures (drops c.args.seg (count_by_id s.segs c.args.seg) s (seen c.self-2.inside) c.self-2.invariant.0 (whole g c) refl)

pub remove-requires : goal.remove-requires
remove-requires g c =
    let s = c.args.self.now in
    let there = held-there s (rw c.self.view_is at c.self.invariant.0) c.args.seg c.requires.there in
    let d : Dropped c.args.seg c.loop-page.page s (seen c.self-2.inside) = rw (← c.self-2.view_is) at c.loop-page.invariant.0 in
    found-still s.segs c.self-2.inside.segs c.args.seg d.frees.shape there

pub forget_next-page-requires-clause-there : goal.forget_next-page-requires-clause-there
forget_next-page-requires-clause-there g c =
    let s = c.args.self.now in
    let is : c.count-count.result ≡ count_by_id s.segs c.args.seg = rw (← c.self.view_is) c.count-count.ensures in
    let same = count-same s.segs c.loop-page.self.segs c.args.seg c.loop-page.invariant.0.frees.shape in
    omega (arith, is, same)

pub loop-page-preserved : goal.loop-page-preserved
loop-page-preserved g c =
    let e = c.forget_next-page.ensures in
    (e.drops c.args.self.now c.loop-page.invariant.0, e.within)

pub invariant_of-self : goal.invariant_of-self
invariant_of-self g c =
    let t = seen c.self-2.inside in
    let sound : IsStoreSound (record t { segs = but c.args.seg t.segs }) = rw c.remove.ensures at (done g c).sound in
    ((done g c).sound, rw c.remove.ensures (skipped-but t c.args.seg c.self-2.inside.skips sound c.self-2.invariant.1))

pub loop-page-init : goal.loop-page-init
loop-page-init g c = rw (← c.self.view_is) (dropped-none c.args.seg (seen c.self.inside), omega arith)

pub returns : goal.returns
returns g c = done g (goal.at.returns g c).After-remove
