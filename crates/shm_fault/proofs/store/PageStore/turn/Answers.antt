use Rattle.shm_fault.proofs.Names.{◌∙◌, refl, arith, common_steps, length, may_go, two_eligible, OwnedBelow, unlocked, seen}
use Rattle.shm_fault.proofs.Clock.{clock-alike, next-lt, two_unlocked}
use Rattle.shm_fault.proofs.Sound.{Keeps, keeps-alike}
use Rattle.shm_fault.proofs.Places.{turn-is, victim-place}
use Rattle.shm_fault.proofs.store.PageStore.turn.Goals.{After-choose}
use Rattle.shm_fault.proofs.store.PageStore.turn.Goals as goal

kept : (g : _) (c : After-choose g) → Keeps (seen c.self.inside) (record (seen c.self.inside) { frames = c.choose.new.frames; hand = c.choose.new.hand })
kept g c =
    let i = c.self.inside in
    let clock = c.choose.ensures.clock in
    let alike = clock-alike (may_go (unlocked i.segs) c.args.pinned i.frames) i.hand i.frames c.choose.result c.choose.new.frames clock in
    let hand = next-lt i.frames c.choose.new.frames c.choose.result clock.size clock.there c.choose.ensures.hand in
    keeps-alike (seen i) c.self.invariant.0 c.choose.new.frames c.choose.new.hand clock.size alike hand

pub choose-requires-clause-turn : goal.choose-requires-clause-turn
choose-requires-clause-turn g c =
    let i = c.self.inside in
    let sound = c.self.invariant.0 in
    let full : OwnedBelow i.frames (length i.frames) = rw (← c.self.view_is) at c.requires.full in record {
      there = sound.hand;
      one = two_eligible (unlocked i.segs) c.args.pinned i.frames i.hand sound.hand (two_unlocked (seen i) sound full);
      skipped = c.self.invariant.1;
    }

pub invariant_of-self : goal.invariant_of-self
invariant_of-self g c = ((kept g c).sound, c.choose.ensures.turned.skipped)

pub returns : goal.returns
returns g c =
    let s = seen c.self.inside in
    let i = c.self.inside in
    let clock = c.choose.ensures.clock in
    let k = kept g (goal.at.returns g c).After-choose in
    rw (← c.self.view_is)
    (record {
      there = clock.there;
      may = clock.eligible;
      alike = clock-alike (may_go (unlocked i.segs) c.args.pinned i.frames) i.hand i.frames c.choose.result c.choose.new.frames clock;
      pin = grind (arith, common_steps);
      rest = refl;
      placed = turn-is s (record s { frames = c.choose.new.frames; hand = c.choose.new.hand }) c.args.pinned refl refl c.choose.ensures.turned.bits (rw (← c.choose.ensures.turned.victim) c.choose.ensures.hand);
      chosen = c.choose.ensures.turned.victim ∙ victim-place s c.args.pinned;
      goes = k.goes;
    })
