use Rattle.shm_fault.proofs.Names.{ap, PageRec, NowhereUpTo}
use Rattle.shm_fault.specs.Store.{frame_of}
use Rattle.shm_fault.proofs.store.PageStore.next_placed.Goals as goal

pub returns-clause-frames : goal.returns-clause-frames
unfolding frame_of
returns-clause-frames g c =
    let over : NowhereUpTo c.args.first.page c.next_placed.result c.args.first.seg c.args.self.now.segs = rw (← c.self.view_is) c.next_placed.ensures.over in
    λ page le lt. ap (λ (r : PageRec). r.frame) (over page le lt)
