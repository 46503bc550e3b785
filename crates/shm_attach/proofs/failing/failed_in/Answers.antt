use Rattle.shm_attach.proofs.Names.{◌≡◌, ◌∙◌, ◌+◌, ◌-◌, true, true≢false, refl, sym, arith, bare, bare_all, IsCovering}
use Rattle.shm_attach.proofs.Served.{failed-served, failed-none, failed-readonly}
use Rattle.shm_attach.proofs.failing.failed_in.Goals.{else-write-via-then-write+else-not-piece, else-write-via-else-write}
use Rattle.shm_attach.proofs.failing.failed_in.Goals as goal

pub loop-left-init : goal.loop-left-init
loop-left-init c = refl

pub returns-in_default : goal.returns-in_default
returns-in_default c =
    let none = rw c.in_default.is at c.piece_at.ensures.value in
    sym (failed-none c.args.write (bare_all c.args.space.now.pieces) c.loop-left.at c.loop-left.left (omega (arith, c.loop-left-test.true)) (sym none)) ∙ c.loop-left.invariant

pub returns-then-not-piece : goal.returns-then-not-piece
returns-then-not-piece c =
    let found = rw c.in-Some.is at c.piece_at.ensures.value in
    sym
    (failed-readonly c.args.write (bare_all c.args.space.now.pieces) (bare c.in-Some.piece) c.loop-left.at c.loop-left.left (omega (arith, c.loop-left-test.true)) c.if-write.true
    (sym found) c.if-not-piece.true)
    ∙ c.loop-left.invariant

pub loop-left-preserved : goal.loop-left-preserved
loop-left-preserved c =
    let p = bare c.in-Some.piece in
    let at = c.loop-left.at in
    let served = c.min-served.result in
    let within : IsCovering at c.in-Some.piece = c.in-Some.ensures.within in
    let may : c.args.write ≡ true → p.writable ≡ true =
    elim c.else-write.branch [
      | else-write-via-then-write+else-not-piece w ↦ λ _. w.if-not-piece.false
      | else-write-via-else-write w ↦ λ writes. absurd (true≢false (sym writes ∙ w.if-write.false))
    ] in
    let split : c.loop-left.left ≡ served + (c.loop-left.left - served) = omega (arith, c.min-served.ensures) in
    sym
    (failed-served c.args.write (bare_all c.args.space.now.pieces) p at served (c.loop-left.left - served) may
    (λ b from to. c.in-Some.ensures.whole b (omega (arith, within.from, from)) (omega (arith, within.to, to, c.min-served.ensures, c.end.ensures))))
    ∙ rw split at c.loop-left.invariant

pub returns : goal.returns
returns c =
    let none : c.loop-left.left ≡ 0 = omega (arith, c.loop-left-test.false) in
    rw none at c.loop-left.invariant
