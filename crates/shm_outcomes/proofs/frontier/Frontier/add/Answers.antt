use Rattle.shm_outcomes.proofs.Names.{rules, ◌≡◌, ◌∙◌, ◌+◌, ◌++◌, ◌∷◌, [], inr, ap, map, Contains, List, subst, sym, keys_of, State, Frontier, states_in, path, path_in}
use Rattle.shm_outcomes.proofs.Adding.{states-paths, paths-push}
use Rattle.shm_outcomes.proofs.Placing.{goes-last, not-found}
use Rattle.shm_outcomes.proofs.Same.{state_eq, equal-states}
use Rattle.shm_outcomes.proofs.frontier.Frontier.add.Goals as goal

pub returns-clause-added : goal.returns-clause-added
returns-clause-added c =
    let no = c.if-has.false in
    let absent : Contains (states_in c.args.self.now.paths) c.args.state → ⊥ = λ there. (let yes-there = c.has.ensures.1 there in absurd (cc)) in
    let states : states_in c.args.self.now.paths ≡ keys_of c.self.inside.paths.entries = sym (ap (λ (m : Frontier). states_in m.paths) c.self.view_is) ∙ states-paths c.self.inside.paths.entries in
    let none = not-found state_eq equal-states c.self.inside.paths c.args.state (λ there. absent (subst (λ (l : List State). Contains l c.args.state) (sym states) there)) in
    let put = c.in_ok-insert.ensures.entries ∙ goes-last state_eq equal-states c.self.inside.paths c.args.state c.args.schedule none in
    let paths : map path_in c.insert.new.self.entries ≡ c.args.self.now.paths ++ path c.args.state c.args.schedule ∷ [] =
    ap (λ es. map path_in es) put ∙ paths-push c.self.inside.paths.entries c.args.state c.args.schedule
    ∙ ap (λ (m : Frontier). m.paths ++ path c.args.state c.args.schedule ∷ []) c.self.view_is in
    let count : c.self.inside.count + 1 ≡ c.args.self.now.count + 1 = ap (λ (m : Frontier). m.count + 1) c.self.view_is in
    inr (absent, search rules, λ j. record { paths = paths j; count = count j })
