use Rattle.shm_areas.proofs.Names.{◌∙◌, ap, bare, bare_all, meets, Piece, List, filter_passes, rest_segments}
use Rattle.shm_areas.proofs.Edits.{arranged_filter}
use Rattle.shm_areas.proofs.Leaving.{rests-met}
use Rattle.shm_areas.proofs.space.Space.rests.Goals as goal

pub rests_of-requires : goal.rests_of-requires
rests_of-requires c =
    let here = λ (p : Piece). meets c.args.from c.args.to (bare p) in
    rw c.met.ensures.value
    record {
      arranged = arranged_filter here _ c.args.self.now.pieces c.met.ensures.arranged;
      meet = filter_passes here c.args.self.now.pieces;
    }

pub returns : goal.returns
returns c =
    let from = c.args.from in
    let to = c.args.to in
    c.rests_of.ensures ∙ ap (λ (ps : List Piece). rest_segments from to (bare_all ps)) c.met.ensures.value ∙ rests-met from to c.args.self.now.pieces
