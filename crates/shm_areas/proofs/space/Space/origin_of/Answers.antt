use Rattle.shm_areas.proofs.Names.{◌≡◌, ◌∙◌, ap, find, has_origin, option_map, Piece, bare, slice_range, SpaceView}
use Rattle.shm_areas.proofs.Origins.{find-run, stored_origin}
use Rattle.shm_areas.proofs.space.Space.origin_of.Goals as goal

pub returns-clause-stored : goal.returns-clause-stored
returns-clause-stored c =
    let all = c.self.inside.pieces.items in
    let run = c.run_of_origin-run.result in
    let here = λ (p : Piece). has_origin c.args.addr (bare p) in
    let own : c.deref.result.now ≡ all = c.deref.ensures.value in
    let found : find here (slice_range c.deref-2.result.now run.first run.last) ≡ find here all =
    rw c.deref-2.ensures.value (find-run c.args.addr c.self.inside.reach run.first run.last all c.self.invariant.2 (rw own at c.run_of_origin-run.ensures)) in
    c.first_with_origin.ensures ∙ found ∙ ap (λ (s : SpaceView). find here s.pieces) c.self.view_is

pub returns-clause-flat : goal.returns-clause-flat
returns-clause-flat c = ap (option_map bare) (returns-clause-stored c) ∙ stored_origin c.args.addr c.args.self.now.pieces
