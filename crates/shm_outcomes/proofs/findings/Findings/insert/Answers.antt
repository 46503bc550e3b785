use Rattle.shm_outcomes.proofs.Names.{rules, ◌≡◌, ◌∙◌, ◌++◌, ◌∷◌, [], inr, ap, map, Contains, List, subst, sym, keys_of, map-append, Reply, Finding, outcome_eq, same-outcomes, outcomes_in}
use Rattle.shm_outcomes.proofs.Placing.{found_as, goes-last, not-found, outcomes-found}
use Rattle.shm_outcomes.proofs.findings.Findings.insert.Goals as goal

pub returns : goal.returns
returns c =
    let no = c.if-has.false in
    let finding : Finding = record { events = c.args.events.now; outcome = c.args.outcome } in
    let absent : Contains (outcomes_in c.args.self.now) c.args.outcome → ⊥ = λ there. (let yes-there = c.has.ensures.1 there in absurd (cc)) in
    let outcomes : outcomes_in c.args.self.now ≡ keys_of c.self.inside.all.entries = sym (ap outcomes_in c.self.view_is) ∙ outcomes-found (λ v. v.items) c.self.inside.all.entries in
    let none = not-found outcome_eq same-outcomes c.self.inside.all c.args.outcome (λ there. absent (subst (λ (l : List (List (List Reply))). Contains l c.args.outcome) (sym outcomes) there)) in
    let put = c.in_ok-insert.ensures.entries ∙ goes-last outcome_eq same-outcomes c.self.inside.all c.args.outcome c.in_ok-events.events none in
    let events : c.in_ok-events.events.items ≡ c.args.events.now = search rules in
    let news : map (found_as (λ v. v.items)) c.insert.new.self.entries ≡ c.args.self.now ++ finding ∷ [] =
    ap (λ es. map (found_as (λ v. v.items)) es) put
    ∙ map-append (found_as (λ v. v.items)) c.self.inside.all.entries ((c.args.outcome, c.in_ok-events.events) ∷ [])
    ∙ (λ j. c.self.view_is j ++ record { events = events j; outcome = c.args.outcome } ∷ []) in
    inr (absent, news)
