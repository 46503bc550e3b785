use Rattle.shm_areas.proofs.Names.{◌∙◌, ◌≤◌, arith, get_or, lowest_address, end_address, end_of, bare, IsFit}
use Rattle.shm_areas.proofs.Placing.{nothing, fit_at}
use Rattle.shm_areas.proofs.Gaps.{gap_step}
use Rattle.shm_areas.proofs.search.least_gap.Goals as goal

pub end-requires : goal.end-requires
end-requires c = fit_at lowest_address c.args.pieces.now c.loop-piece.piece-index nothing c.requires.arranged (omega arith)

pub loop-piece-preserved : goal.loop-piece-preserved
loop-piece-preserved c =
    let fit : IsFit (bare (get_or c.args.pieces.now c.loop-piece.piece-index nothing)) =
    fit_at lowest_address c.args.pieces.now c.loop-piece.piece-index nothing c.requires.arranged (omega arith) in
    let high : end_of (bare (get_or c.args.pieces.now c.loop-piece.piece-index nothing)) ≤ end_address = fit.within in
    let step = gap_step c.args.pieces.now c.loop-piece.piece-index c.args.pages c.loop-piece.base nothing (omega arith) (omega arith) in
    record {
      found = rw (c.max-base.ensures, c.end.ensures) (c.loop-piece.invariant.found ∙ step);
      high = omega (arith, high);
    }
