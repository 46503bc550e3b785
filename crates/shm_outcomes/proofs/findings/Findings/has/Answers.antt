use Rattle.shm_outcomes.proofs.Names.{◌≡◌, ◌∙◌, Contains, IsTrue, List, ap, sym, subst, keys_of, Reply, outcome_eq, same-outcomes, outcomes_in}
use Rattle.shm_outcomes.proofs.Placing.{is-there, outcomes-found}
use Rattle.shm_outcomes.proofs.findings.Findings.has.Goals as goal

pub returns : goal.returns
returns c =
    let outcomes : outcomes_in c.args.self.now ≡ keys_of c.self.inside.all.entries = sym (ap outcomes_in c.self.view_is) ∙ outcomes-found (λ v. v.items) c.self.inside.all.entries in
    subst (λ (l : List (List (List Reply))). (IsTrue c.contains_key.result → Contains l c.args.outcome.now) × (Contains l c.args.outcome.now → IsTrue c.contains_key.result)) (sym outcomes)
    (is-there outcome_eq same-outcomes c.self.inside.all c.args.outcome.now c.contains_key.result c.contains_key.ensures)
