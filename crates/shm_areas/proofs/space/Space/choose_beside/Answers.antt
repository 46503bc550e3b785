use Rattle.shm_areas.proofs.Names.{◌∙◌, sym, arith, bare_all, ranges_of}
use Rattle.shm_areas.proofs.FreeGaps.{chosen_early, chosen_end}
use Rattle.shm_areas.proofs.space.Space.choose_beside.Goals as goal

pub returns-then-is_some-clause-value : goal.returns-then-is_some-clause-value
returns-then-is_some-clause-value c =
    (chosen_early (bare_all c.args.self.now.pieces) (ranges_of c.args.pid c.args.ranges.now) c.args.pages c.free_from-best.result c.free_from-best.ensures.arranged
    c.free_from-best.ensures.value (sym c.is_some.ensures ∙ c.if-is_some.true)).value

pub returns-then-is_some-clause-least : goal.returns-then-is_some-clause-least
returns-then-is_some-clause-least c =
    (chosen_early (bare_all c.args.self.now.pieces) (ranges_of c.args.pid c.args.ranges.now) c.args.pages c.free_from-best.result c.free_from-best.ensures.arranged
    c.free_from-best.ensures.value (sym c.is_some.ensures ∙ c.if-is_some.true)).law

pub returns-clause-value : goal.returns-clause-value
returns-clause-value c =
    (chosen_end (bare_all c.args.self.now.pieces) c.args.ranges.now c.args.pages c.args.pid c.loop-range.range-index c.loop-range.best c.free_from-best.ensures.arranged
    c.requires.ranges (omega (arith, c.loop-range-test.false)) c.loop-range.invariant).value

pub returns-clause-least : goal.returns-clause-least
returns-clause-least c =
    (chosen_end (bare_all c.args.self.now.pieces) c.args.ranges.now c.args.pages c.args.pid c.loop-range.range-index c.loop-range.best c.free_from-best.ensures.arranged
    c.requires.ranges (omega (arith, c.loop-range-test.false)) c.loop-range.invariant).law
