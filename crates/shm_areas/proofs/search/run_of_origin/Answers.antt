use Rattle.shm_areas.proofs.Names.{◌≤◌, arith, inl, inr, cases_lt, lowest_address}
use Rattle.shm_areas.proofs.Placing.{nothing, fit_at}
use Rattle.shm_areas.proofs.search.run_of_origin.Goals as goal

pub returns : goal.returns
returns c =
    let sum = c.saturating_add-to.ensures in
    let order : c.count_below.result ≤ c.count_to.result =
    elim (cases_lt c.count_to.result c.count_below.result) [
      | inl lt ↦
          let below = c.count_below.ensures.below c.count_to.result nothing lt in
          let above = c.count_to.ensures.above c.count_to.result nothing (omega arith) (omega (arith, lt, c.count_below.ensures.bound)) in
          absurd (omega (arith, below, above, sum))
      | inr le ↦ le
    ] in
    record {
      order = order;
      bound = c.count_to.ensures.bound;
      below = c.count_below.ensures.below;
      above = λ k d g l.
          let fit = fit_at lowest_address c.args.pieces.now k d c.requires l in
          omega (arith, c.count_to.ensures.above k d g l, fit.within, sum);
    }
