use Rattle.shm_segments.proofs.Marking.{one-fits}
use Rattle.shm_segments.proofs.segments.Segments.page_at.Goals as goal

pub page_at-requires : goal.page_at-requires
page_at-requires g c = one-fits _ _ _ _ c.args.span.now c.self.invariant (rw (← c.self.view_is) at c.requires)
