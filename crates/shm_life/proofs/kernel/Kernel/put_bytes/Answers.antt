use Rattle.shm_life.proofs.Names.{[], ◌∷◌, false, span_places}
use Rattle.shm_life.proofs.Lending.{put-fits, put-here, puts-some, put-well}
use Rattle.shm_life.proofs.kernel.Kernel.put_bytes.Goals as goal

pub put_back-requires-clause-fit : goal.put_back-requires-clause-fit
put_back-requires-clause-fit g c = put-fits _ c.args.page _ _ c.span_of-span.ensures.value (rw (← c.self.view_is) at c.requires.there)

pub put_back-requires-clause-here : goal.put_back-requires-clause-here
put_back-requires-clause-here g c = put-here c.self.inside.segments.memory c.args.page _ _ c.span_of-span.ensures.value (rw (← c.self.view_is) at c.requires.here)

pub invariant_of-self : goal.invariant_of-self
invariant_of-self g c = let e = c.put_back.ensures in (put-well _ _ _ _ _ _ _ (span_places false (c.span_of-span.result ∷ [])) c.in-Some.bytes.now c.self.invariant.0 e.table e.put.rest e.put.count, c.self.invariant.1, c.self.invariant.2)

pub returns : goal.returns
returns g c =
    let e = c.put_back.ensures in
    rw (c.in-Some.is, ← c.self.view_is) (puts-some c.args.page _ _ _ _ _ _ _ _ _ _ c.span_of-span.ensures.value e.put e.table e.keeps)
