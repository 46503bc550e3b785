use Rattle.shm_fault.proofs.Names.{arith, HasPage, ref_of, seen}
use Rattle.shm_fault.proofs.Spans.{fits-has, few_pages}
use Rattle.shm_fault.proofs.store.PageStore.page_at.Goals.{After-self}
use Rattle.shm_fault.proofs.store.PageStore.page_at.Goals as goal

has : (g : _) (c : After-self g) → HasPage c.self.inside.segs (ref_of c.args.span.now)
has g c = fits-has (seen c.self.inside) c.self.invariant.0 c.args.span.now (rw (← c.self.view_is) at c.requires)

pub overflow_cast-result : goal.overflow_cast-result
overflow_cast-result g c =
    let there = has g (goal.at.overflow_cast-result g c).After-self in
    let few = few_pages (seen c.self.inside) c.self.invariant.0 c.args.span.now.seg in
    omega (arith, there, few)

pub returns-clause-has : goal.returns-clause-has
returns-clause-has g c = rw (← c.self.view_is) (has g (goal.at.returns-clause-has g c).After-self)
