use Rattle.std.proofs.Common.{ap, ◌∙◌, List, ℕ, [], rules}
use Rattle.shm_life.specs.Start.{start_error}
use Rattle.nogcuvema.proofs.Standing.{sizes-given}
use Rattle.nogcuvema.proofs.open.area_error.Goals as goal

pub returns : goal.returns
returns c =
    c.first_area_error.ensures (λ area. area.slots) (λ area slots gives. search rules)
    ∙ ap (λ (ns : List ℕ). start_error c.args.limits.now ns []) (sizes-given c.args.areas.now)
