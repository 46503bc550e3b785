use Rattle.shm_segments.proofs.Acting.{acted, loads, put-long}
use Rattle.shm_segments.proofs.Spanning.{spans-fit}
use Rattle.shm_segments.proofs.segments.Segments.access.Goals as goal

pub access-requires-clause-spans : goal.access-requires-clause-spans
access-requires-clause-spans g c = let a = rw (← c.self.view_is) at c.requires.spans in record { few = a.few; fit = spans-fit _ _ c.args.spans.now c.self.invariant.kept.agree a.fit; sum = a.sum }

pub invariant_of-self : goal.invariant_of-self
invariant_of-self g c = (acted _ _ _ _ _ _ _ _ _ _ _ _ c.self.invariant (rw (← c.self.view_is) at c.requires.spans) (put-long c.args.act _ _ c.requires.room) c.access.ensures).0

pub returns : goal.returns
returns g c =
    let a = rw (← c.self.view_is) at c.requires.spans in
    rw (← c.self.view_is, loads _ _ c.args.spans.now c.self.invariant.kept.agree a.fit)
    (acted _ _ _ _ _ _ _ _ _ _ _ _ c.self.invariant a (put-long c.args.act _ _ c.requires.room) c.access.ensures).1
