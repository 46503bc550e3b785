use Rattle.shm_fault.proofs.Names.{◌≡◌, ◌+◌, ◌-◌, ◌≤◌, arith, count_by_id, HasPage, NowhereUpTo, DropsOn, seen}
use Rattle.shm_fault.proofs.Drops.{dropped-more, dropped-rest}
use Rattle.shm_fault.proofs.store.PageStore.forget_next.Goals.{After-next_placed-page}
use Rattle.shm_fault.proofs.store.PageStore.forget_next.Goals as goal

-- the pages that are passed are nowhere
passed : (g : _) (c : After-next_placed-page g) → DropsOn c.args.first.seg c.args.first.page c.next_placed-page.result c.args.self.now c.args.self.now
passed g c = rw (← c.self.view_is) λ b d.
    let s = seen c.self.inside in
    let first = c.args.first.page in
    let page = c.next_placed-page.result in
    let e = c.next_placed-page.ensures in
    let there : c.args.last ≤ count_by_id s.segs c.args.first.seg = rw (← c.self.view_is) at c.requires.there in
    let sum : first + (page - first) ≡ page = omega (arith, e.on) in
    let none : NowhereUpTo first (first + (page - first)) c.args.first.seg s.segs = rw sum e.over in
    rw sum at (dropped-rest c.args.first.seg first (page - first) b s c.self.invariant.0.apart none (omega (arith, sum, there, e.within)) d)

pub returns-then-page-last-clause-drops : goal.returns-then-page-last-clause-drops
returns-then-page-last-clause-drops g c =
    let last : c.next_placed-page.result ≡ c.args.last = omega (arith, c.if-page-last.true) in
    rw (← last) (passed g (goal.at.returns-then-page-last-clause-drops g c).After-next_placed-page)

pub returns-clause-drops : goal.returns-clause-drops
returns-clause-drops g c = λ b d.
    let s = c.args.self.now in
    let t = c.forget.new.self in
    let seg = c.args.first.seg in
    let page = c.next_placed-page.result in
    let is = passed g (goal.at.returns-clause-drops g c).After-next_placed-page b d in
    let there : HasPage s.segs (record { seg = seg; page = page }) = omega (arith, c.requires.there, c.next_placed-page.ensures.within, c.if-page-last.false) in
    dropped-more seg page b s t is there c.forget.ensures
