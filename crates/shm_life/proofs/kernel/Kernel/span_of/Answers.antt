use Rattle.shm_fault.specs.Store.{frame_of}
use Rattle.shm_life.proofs.Lending.{has-page, span-named}
use Rattle.shm_life.proofs.kernel.Kernel.span_of.Goals as goal

pub returns-clause-value : goal.returns-clause-value
unfolding frame_of
returns-clause-value g c = rw (← c.self.view_is) (span-named c.args.page c.from.result c.frame.result _ c.from.ensures (rw c.store.ensures.value at c.frame.ensures))

pub returns-clause-has : goal.returns-clause-has
returns-clause-has g c = λ there. rw (← c.self.view_is) (has-page _ _ c.args.page c.store.ensures.exact (rw (← c.self.view_is) at there))
