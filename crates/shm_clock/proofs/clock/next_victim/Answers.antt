use Rattle.std.proofs.Common.{◌≡◌, ◌<◌, ◌≤◌, ◌+◌, length, sym, ◌∙◌, arith}
use Rattle.shm_clock.specs.Clock.{ring_at}
use Rattle.shm_clock.proofs.Asking.{ask_stops, ask_goes_on, ask_passes, ask_round, ask_none}
use Rattle.shm_clock.proofs.clock.next_victim.Goals as goal
use Rattle.shm_clock.proofs.clock.next_victim.Goals.{then-may_go+else-not-referenced, else-may_go}

pub returns-then-not-referenced-clause-victim : goal.returns-then-not-referenced-clause-victim
returns-then-not-referenced-clause-victim g c =
    let lt : c.loop-step.step < length c.args.frames.now = omega (arith, c.count-count.ensures.size) in
    let at : c.frame_after-frame.result ≡ ring_at c.args.hand (length c.args.frames.now) c.loop-step.step = rw (← c.count-count.ensures.size) c.frame_after-frame.ensures.number in
    ask_stops g.passes c.args.pinned c.args.hand c.args.frames.now c.requires.1.1.0 c.loop-step.step c.loop-step.first c.frame_after-frame.result c.loop-step.invariant.0 lt at (sym c.may_go.ensures ∙ c.if-may_go.true) (sym c.referenced.ensures.bit ∙ c.if-not-referenced.true)

pub loop-step-preserved : goal.loop-step-preserved
loop-step-preserved g c =
    let lt : c.loop-step.step < length c.args.frames.now = omega (arith, c.count-count.ensures.size) in
    let at : c.frame_after-frame.result ≡ ring_at c.args.hand (length c.args.frames.now) c.loop-step.step = rw (← c.count-count.ensures.size) c.frame_after-frame.ensures.number in
    elim c.if-may_go.branch [
      | then-may_go+else-not-referenced w ↦ (
        rw (w.first-is, w.unwrap_or.ensures) (ask_goes_on g.passes c.args.pinned c.args.hand c.args.frames.now c.requires.1.1.0 c.loop-step.step c.loop-step.first c.frame_after-frame.result c.loop-step.invariant.0 lt at (sym c.may_go.ensures ∙ w.if-may_go.true) (sym w.referenced.ensures.bit ∙ w.if-not-referenced.false)),
        omega (arith, lt),
        rw w.looks-is (omega (arith, w.referenced.ensures.counted)),
      )
      | else-may_go w ↦ (
        rw w.first-is (ask_passes g.passes c.args.pinned c.args.hand c.args.frames.now c.requires.1.1.0 c.loop-step.step c.loop-step.first c.frame_after-frame.result c.loop-step.invariant.0 lt at (sym c.may_go.ensures ∙ w.if-may_go.false)),
        omega (arith, lt),
        rw w.looks-is (omega arith),
      )
    ]

pub unreachable-requires : goal.unreachable-requires
unreachable-requires g c =
    c.requires.1.1.1 (ask_none g.passes c.args.pinned c.args.hand c.args.frames.now c.requires.1.1.0 c.loop-step.step c.loop-step.first c.loop-step.invariant.0 (omega (arith, c.count-count.ensures.size)) c.in-None.is)

pub returns-clause-victim : goal.returns-clause-victim
returns-clause-victim g c =
    ask_round g.passes c.args.pinned c.args.hand c.args.frames.now c.requires.1.1.0 c.loop-step.step c.loop-step.first c.loop-step.invariant.0 (omega (arith, c.count-count.ensures.size)) c.in-Some.frame c.in-Some.is
