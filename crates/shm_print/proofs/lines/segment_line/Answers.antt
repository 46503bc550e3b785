use Rattle.std.proofs.Common.{◌∙◌, to_z, of_z, to_z-of_z, w32}
use Rattle.std.proofs.lemmas.Result.{IfOk-weaker}
use Rattle.shm_print.proofs.Cells.{line_of_cells}
use Rattle.shm_print.proofs.lines.segment_line.Goals as goal

pub returns : goal.returns
returns c =
    let line = line_of_cells c.args.id (to_z w32 (of_z w32 c.args.id)) c.args.shown.now _ _ _ _ _ (to_z-of_z {w = w32} {z = c.args.id} c.ranges.id) c.laid_out.ensures c.laid_out-2.ensures c.laid_out-3.ensures c.laid_out-4.ensures c.in_ok-head.ensures.ok in
    IfOk-weaker c.format-2.result _ _ (λ s e. e ∙ line) c.format-2.ensures.ok
