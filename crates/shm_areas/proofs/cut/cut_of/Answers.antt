use Rattle.shm_areas.proofs.Names.{◌≡◌, ◌-◌, ◌++◌, suc, sym, arith, get_or, take-append-drop, splice, lowest_address, stored_below, stored_above, stored_cut, IsPieceRange}
use Rattle.shm_areas.proofs.Placing.{nothing, fit_at}
use Rattle.shm_areas.proofs.Cuts.{cut-none, cut-run}
use Rattle.shm_areas.proofs.cut.cut_of.Goals as goal

pub returns-then-run : goal.returns-then-run
returns-then-run c =
    let r = c.run_in-run.ensures in
    let same : c.run_in-run.result.last ≡ c.run_in-run.result.first = sym c.if-run.true in
    let ends : IsPieceRange c.args.from c.args.to c.args.pieces.now c.run_in-run.result.first c.run_in-run.result.first = rw same at r in
    record {
      order = r.order;
      bound = r.bound;
      leaves = rw (same, cut-none c.args.from c.args.to c.args.pieces.now c.run_in-run.result.first ends)
          (take-append-drop c.run_in-run.result.first c.args.pieces.now);
    }

pub part_below-requires-clause-fit : goal.part_below-requires-clause-fit
part_below-requires-clause-fit c =
    let order = c.run_in-run.ensures.order in
    let bound = c.run_in-run.ensures.bound in
    fit_at lowest_address c.args.pieces.now c.run_in-run.result.first nothing c.requires.arranged (omega (arith, c.if-run.false))

pub part_above-requires-clause-fit : goal.part_above-requires-clause-fit
part_above-requires-clause-fit c =
    let order = c.run_in-run.ensures.order in
    let bound = c.run_in-run.ensures.bound in
    fit_at lowest_address c.args.pieces.now (c.run_in-run.result.last - 1) nothing c.requires.arranged (omega (arith, c.if-run.false))

pub returns : goal.returns
returns c =
    let r = c.run_in-run.ensures in
    let ps = c.args.pieces.now in
    let first = c.run_in-run.result.first in
    let last = c.run_in-run.result.last in
    let order = r.order in
    let next : suc (last - 1) ≡ last = omega (arith, c.if-run.false) in
    let run : IsPieceRange c.args.from c.args.to ps first (suc (last - 1)) = rw next r in
    let left = cut-run c.args.from c.args.to first (last - 1) lowest_address ps nothing c.requires.arranged run (omega (arith, c.if-run.false)) in
    let whole : splice ps first last (stored_below c.args.from (get_or ps first nothing) ++ stored_above c.args.to (get_or ps (last - 1) nothing))
    ≡ stored_cut c.args.from c.args.to ps = rw next at left in
    record { order = r.order; bound = r.bound; leaves = rw (c.part_below.ensures, c.part_above.ensures) whole }
