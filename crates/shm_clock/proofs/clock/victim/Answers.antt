use Rattle.std.proofs.Common.{arith}
use Rattle.std.proofs.lemmas.Bool.Decides.{nat_tests}
use Rattle.shm_clock.specs.Clock.{may_go, IsClockVictim}
use Rattle.shm_clock.proofs.Rule.{rule-clock}
use Rattle.shm_clock.proofs.clock.victim.Given as given
use Rattle.shm_clock.proofs.clock.victim.Goals as goal
use Rattle.shm_clock.proofs.clock.victim.Goals.{After-turn-frame}

clock : (g : given.Over) (c : After-turn-frame g) → IsClockVictim (may_go g.passes c.args.pinned c.args.frames.now) c.args.hand.now c.args.frames.now c.turn-frame.result c.turn-frame.new.frames
clock g c =
    let turned = c.turn-frame.ensures.turned in
    rule-clock (may_go g.passes c.args.pinned c.args.frames.now) c.args.hand.now c.args.frames.now c.requires.1.1.0.there c.requires.1.1.0.one c.turn-frame.result c.turn-frame.new.frames (record { victim_is = turned.victim; after_is = turned.bits })

pub returns-then-frame-count-clause-found : goal.returns-then-frame-count-clause-found
returns-then-frame-count-clause-found g c = record {
  turned = c.turn-frame.ensures.turned;
  hand = grind (arith, nat_tests, c.count-count.ensures.size);
  clock = clock g (goal.at.returns-then-frame-count-clause-found g c).After-turn-frame;
}

pub returns-else-frame-count-clause-found : goal.returns-else-frame-count-clause-found
returns-else-frame-count-clause-found g c = record {
  turned = c.turn-frame.ensures.turned;
  hand = grind (arith, nat_tests, c.count-count.ensures.size);
  clock = clock g (goal.at.returns-else-frame-count-clause-found g c).After-turn-frame;
}
