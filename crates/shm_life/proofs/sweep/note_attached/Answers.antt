use Rattle.shm_life.proofs.Names.{take, slice_index_or, attached}
use Rattle.shm_life.proofs.Settled.{change-next, live-attached}
use Rattle.shm_life.proofs.sweep.note_attached.Goals as goal

pub attached-requires : goal.attached-requires
attached-requires g c =
    let seg = slice_index_or c.args.ids.now c.loop-seg.seg-index 0 in
    rw c.loop-seg.invariant
    (live-attached c.args.time c.args.pid c.args.segments.now.table (take c.loop-seg.seg-index c.args.ids.now) seg (c.requires c.loop-seg.seg-index 0 c.loop-seg-test.true))

pub loop-seg-preserved : goal.loop-seg-preserved
loop-seg-preserved g c =
    change-next (attached c.args.time c.args.pid) c.args.segments.now _ _ c.args.ids.now c.loop-seg.seg-index c.loop-seg-test.true c.attached.ensures c.loop-seg.invariant
