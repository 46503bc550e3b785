use Rattle.shm_life.proofs.Names.{take, slice_index_or, detached}
use Rattle.shm_life.proofs.Settled.{change-next, live-detached}
use Rattle.shm_life.proofs.sweep.note_detached.Goals as goal

pub detached-requires : goal.detached-requires
detached-requires g c =
    let seg = slice_index_or c.args.lost.now c.loop-seg.seg-index 0 in
    rw c.loop-seg.invariant
    (live-detached c.args.time c.args.pid c.args.segments.now.table (take c.loop-seg.seg-index c.args.lost.now) seg (c.requires c.loop-seg.seg-index 0 c.loop-seg-test.true))

pub loop-seg-preserved : goal.loop-seg-preserved
loop-seg-preserved g c =
    change-next (detached c.args.time c.args.pid) c.args.segments.now _ _ c.args.lost.now c.loop-seg.seg-index c.loop-seg-test.true c.detached.ensures c.loop-seg.invariant
