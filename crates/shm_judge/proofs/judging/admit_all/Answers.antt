use Rattle.shm_judge.proofs.Names.{rules, ◌≡◌, ◌++◌, ◌∷◌, [], List, arith, subst, AreExplored, Node, fresh}
use Rattle.shm_judge.proofs.Verdicts.{admitted, admitted-count, doubt}
use Rattle.shm_judge.proofs.judging.admit_all.Goals as goal

pub loop-node-preserved : goal.loop-node-preserved
loop-node-preserved g c =
    let was : c.loop-node.offered.items ≡ c.pop.new.self.items ++ c.in-Some.node ∷ [] = c.in-Some.ensures.items in
    let is = c.in_default-admit.ensures.admitted in
    let more = admitted-count c.args.script.now c.args.log.now c.loop-node.explored.keys c.admit.new.explored.keys c.loop-node.frontier.items c.admit.new.frontier.items c.in-Some.node is in
    record {
      few = c.in_default-admit.ensures.few;
      count = omega (arith, c.loop-node.invariant.count, more);
      kept =
          λ machine longest h.
          admitted c.args.script.now c.args.log.now machine c.loop-node.explored.keys c.admit.new.explored.keys c.loop-node.frontier.items c.admit.new.frontier.items c.pop.new.self.items longest c.in-Some.node
          (subst (λ (o : List Node). AreExplored c.args.script.now c.args.log.now (fresh machine) c.loop-node.explored.keys c.loop-node.frontier.items o longest) was (c.loop-node.invariant.kept machine longest h)) is;
    }

pub returns-in-Err-clause-err : goal.returns-in-Err-clause-err
returns-in-Err-clause-err g c =
    let was : c.loop-node.offered.items ≡ c.pop.new.self.items ++ c.in-Some.node ∷ [] = c.in-Some.ensures.items in
    λ machine longest h.
    doubt c.args.script.now c.args.log.now machine c.loop-node.explored.keys c.loop-node.frontier.items c.pop.new.self.items longest c.args.most c.in-Some.node c.in-Err.error
    (subst (λ (o : List Node). AreExplored c.args.script.now c.args.log.now (fresh machine) c.loop-node.explored.keys c.loop-node.frontier.items o longest) was (c.loop-node.invariant.kept machine longest h)) c.in-Err.ensures.err

pub returns-clause-kept : goal.returns-clause-kept
returns-clause-kept g c =
    let none : c.loop-node.offered.items ≡ [] = search rules in
    λ machine longest h.
    subst (λ (o : List Node). AreExplored c.args.script.now c.args.log.now (fresh machine) c.loop-node.explored.keys c.loop-node.frontier.items o longest) none (c.loop-node.invariant.kept machine longest h)
