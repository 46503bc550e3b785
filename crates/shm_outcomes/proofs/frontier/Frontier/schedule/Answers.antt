use Rattle.shm_outcomes.proofs.Names.{rules, arith, ◌≡◌, ◌<◌, ◌∙◌, length, sym, ap, subst, List, ℕ, slice_index_or, values_of, length-map, Frontier, path_in}
use Rattle.shm_outcomes.proofs.Adding.{schedule-at}
use Rattle.shm_outcomes.proofs.frontier.Frontier.schedule.Goals as goal

pub returns : goal.returns
returns c w at =
    let long = ap (λ (m : Frontier). length m.paths) c.self.view_is in
    let same = length-map c.self.inside.paths.entries path_in in
    let r = c.requires in
    let lt : c.args.index < length c.self.inside.paths.entries = omega (arith, long, same, r) in
    let all : c.as_slice.result.now ≡ values_of c.self.inside.paths.entries = search rules in
    let is : c.index-as_slice-index.result ≡ slice_index_or (values_of c.self.inside.paths.entries) c.args.index c.index-as_slice-index.result =
    c.index-as_slice-index.is ∙ ap (λ (l : List (List ℕ)). slice_index_or l c.args.index c.index-as_slice-index.result) all in
    schedule-at c.self.inside.paths.entries c.args.index w c.index-as_slice-index.result lt
    (subst (λ (m : Frontier). slice_index_or m.paths c.args.index w ≡ w) (sym c.self.view_is) at) is
