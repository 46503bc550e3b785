use Rattle.shm_fault.proofs.Names.{◌≡◌, ◌<◌, ◌+◌, arith, common_steps, length, rec_at, sym}
use Rattle.shm_fault.proofs.Untouched.{one_if_swapped, swapped-more, swapped-over}
use Rattle.shm_fault.proofs.page_table.PageTable.swapped.Goals.{then-is_swapped, else-is_swapped}
use Rattle.shm_fault.proofs.page_table.PageTable.swapped.Goals as goal

pub loop-page-init : goal.loop-page-init
loop-page-init c =
    let ps = c.args.self.now.pages in
    let n = c.next_placed-page.result in
    let e = c.next_placed-page.ensures in
    let size : c.len-end.result ≡ length ps = rw (← c.self.view_is) c.len-end.ensures in
    (sym (swapped-over ps 0 n e.on (omega (arith, size, e.within)) e.over), omega arith, e.within)

pub loop-page-preserved : goal.loop-page-preserved
loop-page-preserved c =
    let ps = c.args.self.now.pages in
    let page = c.loop-page.page in
    let k = c.loop-page.invariant in
    let e = c.next_placed-page-in-loop-page.ensures in
    let next = c.next_placed-page-in-loop-page.result in
    let size : c.len-end.result ≡ length ps = rw (← c.self.view_is) c.len-end.ensures in
    let there : page < length ps = omega (arith, size, c.loop-page-test.true) in
    let more = swapped-more ps page there in
    let over = swapped-over ps (page + 1) next e.on (omega (arith, size, e.within)) e.over in
    elim c.if-is_swapped.branch [
      | then-is_swapped w ↦
          let one : one_if_swapped (rec_at ps page) ≡ 1 = grind (arith, common_steps) in
          (omega (arith, w.count-is, k.0, more, over, one), omega (arith, w.count-is, k.1, e.on), e.within)
      | else-is_swapped w ↦
          let none : one_if_swapped (rec_at ps page) ≡ 0 = grind (arith, common_steps) in
          (omega (arith, w.count-is, k.0, more, over, none), omega (arith, w.count-is, k.1, e.on), e.within)
    ]
