use Rattle.shm_areas.proofs.Names.{arith, ◌-◌, length, lowest_address, append-nil, refl}
use Rattle.shm_areas.proofs.Placing.{nothing, fit_at}
use Rattle.shm_areas.proofs.Leaving.{rests-one, rests-many}
use Rattle.shm_areas.proofs.rests.rests_of.Goals.{then-count-gt1, else-count-gt1}
use Rattle.shm_areas.proofs.rests.rests_of.Goals as goal

pub rest-above-requires-clause-fit : goal.rest-above-requires-clause-fit
rest-above-requires-clause-fit c = fit_at lowest_address c.args.met.now (length c.args.met.now - 1) nothing c.requires.arranged (omega (arith, c.if-count-gt1.true))

pub returns : goal.returns
returns c =
    elim c.if-count-gt1.branch [
      | then-count-gt1 w ↦
          rw (c.of-2.ensures, w.above-is, w.rest-above.ensures, c.rest-below.ensures, rests-many c.args.from c.args.to lowest_address c.args.met.now nothing c.requires.arranged c.requires.meet w.if-count-gt1.true) refl
      | else-count-gt1 w ↦
          rw (c.of-2.ensures, w.above-is, c.rest-below.ensures, append-nil, rests-one c.args.from c.args.to c.args.met.now nothing (omega (arith, w.if-count-gt1.false, c.if-count-eq0.false))) refl
    ]
