use Rattle.shm_attach.proofs.Names.{◌≡◌, ◌∙◌, ◌+◌, ◌-◌, ◌/◌, ◌%◌, ◌<◌, true, false, refl, sym, arith, common_steps, bare, bare_all, IsCovering, is_some, place_by}
use Rattle.shm_attach.proofs.Absent.{absent-none, absent-here, absent-served, same_page, own-frame}
use Rattle.shm_attach.proofs.HavingTables.{key-held, table-of}
use Rattle.shm_attach.proofs.failing.absent_in.Goals as goal

pub loop-left-init : goal.loop-left-init
loop-left-init c = λ frame all. refl

pub returns-in_default : goal.returns-in_default
returns-in_default c = λ frame all.
    let none = rw c.in_default.is at c.piece_at.ensures.value in
    sym (absent-none frame (bare_all c.args.space.now.pieces) c.loop-left.at c.loop-left.left (sym none)) ∙ c.loop-left.invariant frame all

pub returns-then-is_none : goal.returns-then-is_none
returns-then-is_none c = λ frame all.
    let ps = c.args.space.now.pieces in
    let p = c.in-Some.piece in
    let found = rw c.in-Some.is at c.piece_at.ensures.value in
    let within : IsCovering c.loop-left.at p = c.in-Some.ensures.within in
    let kept = own-frame frame c.args.tables.now.slab ps p c.loop-left.at all c.requires c.in-Some.ensures.among within in
    let none : is_some (frame p.seg ((place_by (bare p) c.loop-left.at).at / 4096)) ≡ false = grind (arith, common_steps, kept) in
    sym (absent-here frame (bare_all ps) (bare p) c.loop-left.at c.loop-left.left (omega (arith, c.loop-left-test.true)) (sym found) none) ∙ c.loop-left.invariant frame all

pub loop-left-preserved : goal.loop-left-preserved
loop-left-preserved c = λ frame all.
    let ps = c.args.space.now.pieces in
    let p = c.in-Some.piece in
    let at = c.loop-left.at in
    let served = c.min-served.result in
    let within : IsCovering at p = c.in-Some.ensures.within in
    let kept = own-frame frame c.args.tables.now.slab ps p at all c.requires c.in-Some.ensures.among within in
    let page = (place_by (bare p) at).at / 4096 in
    let there : is_some (frame p.seg page) ≡ true = grind (arith, common_steps, kept) in
    let split : c.loop-left.left ≡ served + (c.loop-left.left - served) = omega (arith, c.min-served.ensures) in
    let whole : at % 4096 + served < 4097 = omega (arith, c.min-served.ensures) in
    sym
    (absent-served frame (bare_all ps) (bare p) page at served (c.loop-left.left - served) there
    (λ b from to. c.in-Some.ensures.whole b (omega (arith, within.from, from)) (omega (arith, within.from, within.to, within.fit.aligned, whole, to)))
    (λ b from to. same_page (bare p) at b served within.fit.aligned within.from (omega (arith, whole)) from to))
    ∙ rw split at c.loop-left.invariant frame all

pub frame-requires : goal.frame-requires
frame-requires c =
    let t = c.args.tables.now.slab in
    key-held t c.in-Some.piece (table-of t c.args.space.now.pieces c.in-Some.piece c.requires c.in-Some.ensures.among)
