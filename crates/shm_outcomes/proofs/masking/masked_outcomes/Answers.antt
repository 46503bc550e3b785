use Rattle.shm_outcomes.proofs.Names.{rules, ◌≡◌, arith, length, subst, sym, List, ScriptView, AreMaskedOutcomes, hidden_finding, Run, AreOutcomes, IsInserted, Finding}
use Rattle.shm_outcomes.proofs.Hiding.{AreHidden, all-hidden, more-hidden}
use Rattle.shm_outcomes.proofs.masking.masked_outcomes.Goals as goal

pub loop-finding-preserved : goal.loop-finding-preserved
loop-finding-preserved c =
    let inserted : IsInserted c.loop-finding.masked (hidden_finding c.finding-item.result) c.insert.new.self = search rules in
    more-hidden c.args.found.now c.loop-finding.masked c.insert.new.self c.loop-finding.finding-index c.finding-item.result c.loop-finding-test.true c.finding-item.is c.loop-finding.invariant inserted

pub returns : goal.returns
returns c =
    let end : c.loop-finding.finding-index ≡ length c.args.found.now = omega (arith, c.loop-finding-test.false, c.loop-finding.auto.finding-index-end) in
    let all : c.in_ok-all.all.items ≡ c.loop-finding.masked = search rules in
    subst (λ (l : List Finding). (script : ScriptView) (first : Run) → AreOutcomes script first c.args.found.now → AreMaskedOutcomes script first l) (sym all)
    (all-hidden c.args.found.now c.loop-finding.masked (subst (λ i. AreHidden c.args.found.now i c.loop-finding.masked) end c.loop-finding.invariant))
