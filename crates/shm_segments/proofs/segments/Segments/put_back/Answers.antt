use Rattle.shm_segments.proofs.Marking.{one-fits, came-back}
use Rattle.shm_segments.proofs.segments.Segments.put_back.Goals as goal

pub put_back-requires-clause-fit : goal.put_back-requires-clause-fit
put_back-requires-clause-fit g c = one-fits _ _ _ _ c.args.span.now c.self.invariant (rw (← c.self.view_is) at c.requires.fit)

pub invariant_of-self : goal.invariant_of-self
invariant_of-self g c = (came-back _ _ _ _ _ _ _ c.self.invariant (rw (← c.self.view_is) at c.requires.fit) c.requires.size c.put_back.ensures).whole

pub returns-clause-table : goal.returns-clause-table
returns-clause-table g c = rw (← c.self.view_is) (came-back _ _ _ _ _ _ _ c.self.invariant (rw (← c.self.view_is) at c.requires.fit) c.requires.size c.put_back.ensures).written

pub returns-clause-keeps : goal.returns-clause-keeps
returns-clause-keeps g c = rw (← c.self.view_is) (came-back _ _ _ _ _ _ _ c.self.invariant (rw (← c.self.view_is) at c.requires.fit) c.requires.size c.put_back.ensures).keeps
