use Rattle.shm_segments.proofs.Names.{sym, ap, ◌∙◌, segment_count, held, SegmentsView}
use Rattle.shm_segments.proofs.Sums.{segment_count-joined}
use Rattle.shm_segments.proofs.segments.Segments.count.Goals as goal

pub returns : goal.returns
returns g c = c.row_count.ensures ∙ sym (segment_count-joined (held c.self.inside.store) c.self.inside.table) ∙ ap (λ (v : SegmentsView). segment_count v.table) c.self.view_is
