use Rattle.shm_life.proofs.Names.{List, sym, ap, ◌∙◌, slice_index_or, false, Entry, change, attached, SegmentsView, view_of, Stored}
use Rattle.shm_life.proofs.Inheriting.{pieces-more, pieces-live}
use Rattle.shm_life.proofs.fork.note_pieces.Goals as goal

abbrev none : Stored
none = record { base = 0; seg = 0; first_page = 0; pages = 0; writable = false; may_write = false; key = 0 }

pub attached-requires : goal.attached-requires
attached-requires g c =
    rw c.loop-piece.invariant (pieces-live c.args.time c.args.pid c.args.segments.now.table c.args.pieces.now c.loop-piece.piece-index none c.loop-piece-test.true c.requires)

pub loop-piece-preserved : goal.loop-piece-preserved
loop-piece-preserved g c =
    let seg = (slice_index_or c.args.pieces.now c.loop-piece.piece-index none).seg in
    c.attached.ensures ∙ ap (λ (v : SegmentsView). view_of (change v.table seg (attached c.args.time c.args.pid)) v.memory) c.loop-piece.invariant
    ∙ ap (λ (t : List Entry). view_of t c.args.segments.now.memory) (sym (pieces-more c.args.time c.args.pid c.args.segments.now.table c.args.pieces.now c.loop-piece.piece-index none c.loop-piece-test.true))
