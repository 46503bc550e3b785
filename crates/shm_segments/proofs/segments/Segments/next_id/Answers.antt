use Rattle.shm_segments.proofs.Names.{ap, ◌∙◌, sym, held, SegmentsView, next_id}
use Rattle.shm_segments.proofs.Looking.{next-joined}
use Rattle.shm_segments.proofs.segments.Segments.next_id.Goals as goal

pub returns : goal.returns
returns g c =
    c.next_id.ensures.value ∙ sym (next-joined (held c.self.inside.store) c.self.inside.table) ∙ ap (λ (v : SegmentsView). next_id v.table) c.self.view_is
