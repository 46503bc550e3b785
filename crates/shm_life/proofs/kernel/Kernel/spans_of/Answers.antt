use Rattle.shm_life.proofs.Accessing.{or-err, or-ok}
use Rattle.shm_life.proofs.Changed.{asked, spans-there}
use Rattle.shm_life.proofs.kernel.Kernel.spans_of.Goals as goal

pub returns-clause-fit : goal.returns-clause-fit
returns-clause-fit g c =
    rw (← c.self.view_is, c.or.ensures) (or-ok _ _ c.spans_of.result _ (λ spans are. spans-there _ _ c.args.caller.now spans (rw (← c.self.view_is) at c.requires.caller) c.self.invariant.0.kept.pieces are) c.spans_of.ensures.spans)

pub returns-clause-frames : goal.returns-clause-frames
returns-clause-frames g c =
    rw (← c.self.view_is, c.or.ensures) (or-ok _ _ c.spans_of.result _ (λ spans named. named _ c.self.invariant.0.translated) c.spans_of.ensures.frames)

pub returns-clause-places : goal.returns-clause-places
returns-clause-places g c =
    rw (← c.self.view_is, c.or.ensures) (or-ok _ _ c.spans_of.result _ (λ spans are. asked c.args.write _ c.args.caller.now c.args.addr c.args.len _ (rw (← c.self.view_is) at c.requires.caller) are.places) c.spans_of.ensures.spans)

pub returns-clause-none : goal.returns-clause-none
returns-clause-none g c =
    rw (← c.self.view_is, c.or.ensures) (or-err _ _ c.spans_of.result _ (asked c.args.write _ c.args.caller.now c.args.addr c.args.len _ (rw (← c.self.view_is) at c.requires.caller)) c.spans_of.ensures.none)
