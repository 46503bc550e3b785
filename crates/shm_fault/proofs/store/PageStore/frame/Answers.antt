use Rattle.shm_fault.proofs.Names.{ap, PageRec}
use Rattle.shm_fault.specs.Store.{frame_of}
use Rattle.shm_fault.proofs.store.PageStore.frame.Goals as goal

pub returns : goal.returns
unfolding frame_of
returns g c = rw (← c.self.view_is) (ap (λ (p : PageRec). p.frame) c.page.ensures)
