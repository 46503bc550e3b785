use Rattle.shm_segments.proofs.Names.{ap, ◌∙◌, arith, destroyed, held, SegmentsView, common_steps}
use Rattle.shm_segments.proofs.Finding.{is_live-look, live-held}
use Rattle.shm_segments.proofs.Making.{kept-without}
use Rattle.shm_segments.proofs.Staying.{ends-dropped}
use Rattle.shm_segments.proofs.Remembered.{memory-without}
use Rattle.shm_segments.proofs.segments.Segments.destroy.Goals as goal

pub destroy-head-requires : goal.destroy-head-requires
destroy-head-requires g c = record { live = is_live-look (held c.self.inside.store) c.self.inside.table c.args.seg (rw (← c.self.view_is) at c.requires) }

pub drop_segment-requires : goal.drop_segment-requires
drop_segment-requires g c = record { there = live-held c.self.inside.store c.self.inside.table c.args.seg c.self.invariant.kept.agree (rw (← c.self.view_is) at c.requires) }

pub invariant_of-self : goal.invariant_of-self
invariant_of-self g c =
    let k = kept-without (held c.self.inside.store) c.self.inside.table c.self.inside.reserved c.self.inside.locked c.args.seg c.destroy-head.result c.self.invariant.kept c.destroy-head.ensures.value in
    record { kept = rw (c.drop_segment.ensures.held, c.destroy-head.ensures.after, c.pages_of.ensures.value, c.pages_locked.ensures) k.kept; sound = c.drop_segment.ensures.sound }

pub returns-clause-table : goal.returns-clause-table
returns-clause-table g c =
    let k = kept-without (held c.self.inside.store) c.self.inside.table c.self.inside.reserved c.self.inside.locked c.args.seg c.destroy-head.result c.self.invariant.kept c.destroy-head.ensures.value in
    rw (c.drop_segment.ensures.held, c.destroy-head.ensures.after) (k.is ∙ ap (λ (v : SegmentsView). destroyed v.table c.args.seg) c.self.view_is)

pub returns-clause-keeps : goal.returns-clause-keeps
returns-clause-keeps g c = grind (arith, common_steps, c.drop_segment.ensures, c.self.view_is, memory-without)

pub returns-clause-sizes : goal.returns-clause-sizes
returns-clause-sizes g c = rw (← c.self.view_is) c.drop_segment.ensures.sizes

pub returns-clause-still : goal.returns-clause-still
returns-clause-still g c = rw (← c.self.view_is) c.drop_segment.ensures.still

pub returns-clause-ends : goal.returns-clause-ends
returns-clause-ends g c =
    let m = c.self.inside.store in
    let there = live-held m c.self.inside.table c.args.seg c.self.invariant.kept.agree (rw (← c.self.view_is) at c.requires) in
    rw (← c.self.view_is) (ends-dropped c.args.seg m c.self.invariant.sound c.drop_segment.new.self there c.drop_segment.ensures)
