use Rattle.shm_life.proofs.Names.{frame_of, resident_below, ◌≡◌, ◌+◌, ◌∙◌, if◌then◌else◌, true, false, is_some, suc, ap, arith, sym}
use Rattle.shm_life.proofs.Residing.{passed}
use Rattle.shm_life.proofs.residency.resident_of.Goals as goal
use Rattle.shm_life.proofs.residency.resident_of.Goals.{then-is_some, else-is_some}

pub loop-page-init : goal.loop-page-init
loop-page-init g c =
    let e = c.next_placed-page.ensures in
    (sym (passed c.args.store.now c.args.seg 0 c.next_placed-page.result e.on e.frames), e.within, omega arith)

pub loop-page-preserved : goal.loop-page-preserved
loop-page-preserved g c =
    let s = c.args.store.now in
    let seg = c.args.seg in
    let page = c.loop-page.page in
    let k = c.loop-page.invariant in
    let e = c.next_placed-page-in-loop-page.ensures in
    let next = c.next_placed-page-in-loop-page.result in
    let over = passed s seg (page + 1) next e.on e.frames in
    let more : resident_below s seg (page + 1) ≡ resident_below s seg page + (if is_some (frame_of s seg page) then 1 else 0) = (let up : page + 1 ≡ suc page = omega arith in ap (resident_below s seg) up) in
    elim c.if-is_some.branch [
      | then-is_some w ↦
          let one : is_some (frame_of s seg page) ≡ true = ap is_some (sym c.frame.ensures) ∙ sym c.is_some.ensures ∙ w.if-is_some.true in
          let sum = rw one at more in
          (omega (arith, w.count-is, k.0, sum, over), e.within, omega (arith, w.count-is, k.2, e.on))
      | else-is_some w ↦
          let none : is_some (frame_of s seg page) ≡ false = ap is_some (sym c.frame.ensures) ∙ sym c.is_some.ensures ∙ w.if-is_some.false in
          let sum = rw none at more in
          (omega (arith, w.count-is, k.0, sum, over), e.within, omega (arith, w.count-is, k.2, e.on))
    ]
