use Rattle.shm_areas.proofs.Names.{◌≡◌, ◌-◌, ◌<◌, ◌≤◌, ◌⊎◌, inl, inr, arith, get_or, lowest_address, end_of, bare}
use Rattle.shm_areas.proofs.Placing.{nothing, fit_at}
use Rattle.shm_areas.proofs.Cuts.{run_from, run_behind}
use Rattle.shm_areas.proofs.search.run_in.Goals as goal
use Rattle.shm_areas.proofs.search.run_in.Goals.{else-count-gt0-via-then-count-gt0+else-from-end, else-count-gt0-via-else-count-gt0}

pub end-requires : goal.end-requires
end-requires c =
    let bound = c.count_to-count.ensures.bound in
    fit_at lowest_address c.args.pieces.now (c.count_to-count.result - 1) nothing c.requires.arranged (omega arith)

pub returns-then-from-end : goal.returns-then-from-end
returns-then-from-end c =
    let e = c.count_to-count.ensures in
    let l = c.count_to-last.ensures in
    let reaches : c.args.from < end_of (bare (get_or c.args.pieces.now (c.count_to-count.result - 1) nothing)) = omega (arith, c.end.ensures, c.if-from-end.true) in
    run_from lowest_address c.args.from c.args.to c.count_to-count.result c.count_to-last.result c.args.pieces.now nothing
    c.requires.arranged c.requires.order
    (record { bound = e.bound; below = e.below; above = e.above }) (record { bound = l.bound; below = l.below; above = l.above })
    (omega (arith, c.if-count-gt0.true)) reaches

pub returns : goal.returns
returns c =
    let e = c.count_to-count.ensures in
    let l = c.count_to-last.ensures in
    let over : (c.count_to-count.result ≡ 0) ⊎ (end_of (bare (get_or c.args.pieces.now (c.count_to-count.result - 1) nothing)) ≤ c.args.from) =
    elim c.else-count-gt0.branch [
      | else-count-gt0-via-then-count-gt0+else-from-end w ↦ inr (omega (arith, w.end.ensures, w.if-from-end.false))
      | else-count-gt0-via-else-count-gt0 w ↦ inl (omega (arith, w.if-count-gt0.false))
    ] in
    run_behind lowest_address c.args.from c.args.to c.count_to-count.result c.count_to-last.result c.args.pieces.now nothing
    c.requires.arranged c.requires.order
    (record { bound = e.bound; below = e.below; above = e.above }) (record { bound = l.bound; below = l.below; above = l.above })
    over
