use Rattle.shm_segments.proofs.Names.{sym, ap, ◌∙◌, locked, held, SegmentsView}
use Rattle.shm_segments.proofs.Sums.{locked-joined}
use Rattle.shm_segments.proofs.segments.Segments.locked.Goals as goal

pub returns : goal.returns
returns g c = c.self.invariant.kept.locked ∙ sym (locked-joined (held c.self.inside.store) c.self.inside.table c.self.invariant.kept.agree) ∙ ap (λ (v : SegmentsView). locked v.table) c.self.view_is
