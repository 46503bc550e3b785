use Rattle.std.proofs.Common.{◌≡◌, ◌<◌, ◌≤◌, ◌+◌, length, sym, ◌∙◌, arith}
use Rattle.shm_clock.specs.Clock.{ring_at}
use Rattle.shm_clock.proofs.Turning.{stops_here, stop_counted, goes_on, comes_round, round_counted, none_met}
use Rattle.shm_clock.proofs.Skipping.{skipped-unset, strides}
use Rattle.shm_clock.proofs.clock.turn.Goals as goal

pub returns-then-not-referenced-clause-turned : goal.returns-then-not-referenced-clause-turned
returns-then-not-referenced-clause-turned g c =
    let lt : c.loop-step.step < length c.args.frames.now = omega arith in
    let at : c.frame_after-frame.result ≡ ring_at c.args.hand (length c.args.frames.now) c.loop-step.step = rw (← c.count-count.ensures.size) c.frame_after-frame.ensures.number in
    let s = stops_here g.passes c.args.pinned c.args.hand c.args.frames.now c.requires.1.1.0.there c.args.looks.now c.loop-step.step c.loop-step.frames c.loop-step.first c.loop-step.looks c.frame_after-frame.result c.loop-step.invariant.0 lt at (sym c.may_go.ensures ∙ c.if-may_go.true) (sym c.referenced.ensures.bit ∙ c.if-not-referenced.true) in record {
      there = omega (arith, c.frame_after-frame.ensures.there, c.count-count.ensures.size);
      victim = s.victim_is;
      bits = s.after_is;
      skipped = c.loop-step.invariant.2;
    }

pub returns-then-not-referenced-clause-looks : goal.returns-then-not-referenced-clause-looks
returns-then-not-referenced-clause-looks g c =
    let lt : c.loop-step.step < length c.args.frames.now = omega arith in
    let at : c.frame_after-frame.result ≡ ring_at c.args.hand (length c.args.frames.now) c.loop-step.step = rw (← c.count-count.ensures.size) c.frame_after-frame.ensures.number in record {
      most = omega (arith, c.referenced.ensures.counted, c.loop-step.invariant.0.counted, lt);
      counted = c.referenced.ensures.counted ∙ stop_counted g.passes c.args.pinned c.args.hand c.args.frames.now c.requires.1.1.0.there c.args.looks.now c.loop-step.step c.loop-step.frames c.loop-step.first c.loop-step.looks c.frame_after-frame.result c.loop-step.invariant.0 lt at (sym c.may_go.ensures ∙ c.if-may_go.true) (sym c.referenced.ensures.bit ∙ c.if-not-referenced.true);
    }

pub loop-step-preserved-then-may_go : goal.loop-step-preserved-then-may_go
loop-step-preserved-then-may_go g c =
    let lt : c.loop-step.step < length c.args.frames.now = omega arith in
    let at : c.frame_after-frame.result ≡ ring_at c.args.hand (length c.args.frames.now) c.loop-step.step = rw (← c.count-count.ensures.size) c.frame_after-frame.ensures.number in
    let k = goes_on g.passes c.args.pinned c.args.hand c.args.frames.now c.requires.1.1.0.there c.args.looks.now c.loop-step.step c.loop-step.frames c.loop-step.first c.loop-step.looks c.frame_after-frame.result c.loop-step.invariant.0 lt at (sym c.may_go.ensures ∙ c.if-may_go.true) (sym c.referenced.ensures.bit ∙ c.if-not-referenced.false) in (
      rw (c.set_referenced.ensures, c.unwrap_or.ensures, c.referenced.ensures.counted) k,
      omega (arith, lt),
      rw c.set_referenced.ensures (skipped-unset g.passes c.loop-step.frames c.loop-step.skips c.frame_after-frame.result c.loop-step.invariant.2),
    )

pub loop-step-preserved : goal.loop-step-preserved
loop-step-preserved g c =
    let lt : c.loop-step.step < length c.args.frames.now = omega arith in
    let at : c.frame_after-frame.result ≡ ring_at c.args.hand (length c.args.frames.now) c.loop-step.step = rw (← c.count-count.ensures.size) c.frame_after-frame.ensures.number in
    let e = c.stride.ensures in
    let small : c.min-step.result ≤ c.stride.result = omega (arith, c.min-step.ensures) in
    let fits : c.loop-step.step + c.min-step.result ≤ length c.args.frames.now = omega (arith, c.min-step.ensures, lt, c.count-count.ensures.size, c.loop-step.invariant.0.size) in (
      strides g.passes c.args.pinned c.args.hand c.args.frames.now c.requires.1.1.0.there c.args.looks.now c.loop-step.step c.loop-step.frames c.loop-step.first c.loop-step.looks c.frame_after-frame.result c.stride.result c.min-step.result c.loop-step.invariant.0 lt at (sym c.may_go.ensures ∙ c.if-may_go.false) e.within e.over small fits,
      fits,
      e.skipped,
    )

pub unreachable-requires : goal.unreachable-requires
unreachable-requires g c =
    c.requires.1.1.0.one (none_met g.passes c.args.pinned c.args.hand c.args.frames.now c.requires.1.1.0.there c.args.looks.now c.loop-step.step c.loop-step.frames c.loop-step.first c.loop-step.looks c.loop-step.invariant.0 (omega arith) c.in-None.is)

pub returns-clause-turned : goal.returns-clause-turned
returns-clause-turned g c =
    let way = c.loop-step.invariant.0 in
    let round = comes_round g.passes c.args.pinned c.args.hand c.args.frames.now c.requires.1.1.0.there c.args.looks.now c.loop-step.step c.loop-step.frames c.loop-step.first c.loop-step.looks way (omega arith) c.in-Some.frame c.in-Some.is in record {
      there = rw c.in-Some.is at way.small;
      victim = round.victim_is;
      bits = round.after_is;
      skipped = c.loop-step.invariant.2;
    }

pub returns-clause-looks : goal.returns-clause-looks
returns-clause-looks g c =
    let way = c.loop-step.invariant.0 in record {
      most = omega (arith, way.counted, c.loop-step.invariant.1);
      counted = round_counted g.passes c.args.pinned c.args.hand c.args.frames.now c.requires.1.1.0.there c.args.looks.now c.loop-step.step c.loop-step.frames c.loop-step.first c.loop-step.looks way (omega arith) c.in-Some.frame c.in-Some.is;
    }
