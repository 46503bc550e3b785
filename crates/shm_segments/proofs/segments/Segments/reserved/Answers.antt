use Rattle.shm_segments.proofs.Names.{sym, ap, ◌∙◌, reserved, held, SegmentsView}
use Rattle.shm_segments.proofs.Sums.{reserved-joined}
use Rattle.shm_segments.proofs.segments.Segments.reserved.Goals as goal

pub returns : goal.returns
returns g c = c.self.invariant.kept.reserved ∙ sym (reserved-joined (held c.self.inside.store) c.self.inside.table c.self.invariant.kept.agree) ∙ ap (λ (v : SegmentsView). reserved v.table) c.self.view_is
