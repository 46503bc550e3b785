use Rattle.shm_outcomes.proofs.Names.{◌≡◌, ◌∙◌, Contains, IsTrue, List, ap, sym, subst, keys_of, State, Frontier, states_in}
use Rattle.shm_outcomes.proofs.Adding.{states-paths}
use Rattle.shm_outcomes.proofs.Placing.{is-there}
use Rattle.shm_outcomes.proofs.Same.{state_eq, equal-states}
use Rattle.shm_outcomes.proofs.frontier.Frontier.has.Goals as goal

pub returns : goal.returns
returns c =
    let states : states_in c.args.self.now.paths ≡ keys_of c.self.inside.paths.entries = sym (ap (λ (m : Frontier). states_in m.paths) c.self.view_is) ∙ states-paths c.self.inside.paths.entries in
    subst (λ (l : List State). (IsTrue c.contains_key.result → Contains l c.args.state.now) × (Contains l c.args.state.now → IsTrue c.contains_key.result)) (sym states)
    (is-there state_eq equal-states c.self.inside.paths c.args.state.now c.contains_key.result c.contains_key.ensures)
