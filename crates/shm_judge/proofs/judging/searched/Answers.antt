use Rattle.shm_judge.proofs.Names.{rules, ◌≡◌, ◌∙◌, ◌++◌, ◌∷◌, [], List, ap, arith, length, length-append, subst, sym, Machine, IsExplained, IsAdmitted, IsLonger, IsTooMany, successors, AllFill, Node, root, fresh}
use Rattle.shm_judge.proofs.Verdicts.{first-begins, first-doubt, first-explored, goes-on, illegal, legal, permuted, refused, stuck-on}
use Rattle.shm_judge.proofs.judging.searched.Goals as goal

pub returns-in-Err-clause-err : goal.returns-in-Err-clause-err
returns-in-Err-clause-err g c =
    let machine : Machine = g.M.Engine.flat c.args.machine in
    let too : IsTooMany c.args.script.now c.args.log.now (root c.args.script.now (fresh machine)) [] c.args.most c.in-Err.error = search rules in
    first-doubt c.args.script.now c.args.log.now machine c.args.most c.in-Err.error too

pub nodes-init : goal.nodes-init
nodes-init g c =
    let machine : Machine = g.M.Engine.flat c.args.machine in
    let is : IsAdmitted c.args.script.now c.args.log.now (root c.args.script.now (fresh machine)) [] c.admit.new.explored.keys [] c.admit.new.frontier.items = search rules in
    record {
      few = c.in_default.ensures.few;
      explored = first-explored c.args.script.now c.args.log.now machine c.admit.new.explored.keys c.admit.new.frontier.items _ is;
      stuck = (fresh machine, first-begins c.args.script.now c.args.log.now machine, search rules);
    }

pub returns-in_err-push_successors-clause-err : goal.returns-in_err-push_successors-clause-err
returns-in_err-push_successors-clause-err g c =
    refused c.args.script.now c.args.log.now (fresh (g.M.Engine.flat c.args.machine)) c.args.most c.from_residual-in_err-push_successors.result c.from_residual-in_err-push_successors.ensures.1

pub returns-in_err-is_whole-clause-err : goal.returns-in_err-is_whole-clause-err
returns-in_err-is_whole-clause-err g c =
    refused c.args.script.now c.args.log.now (fresh (g.M.Engine.flat c.args.machine)) c.args.most c.from_residual-in_err-is_whole.result c.from_residual-in_err-is_whole.ensures.1

pub returns-in_err-keep_longest-clause-err : goal.returns-in_err-keep_longest-clause-err
returns-in_err-keep_longest-clause-err g c =
    refused c.args.script.now c.args.log.now (fresh (g.M.Engine.flat c.args.machine)) c.args.most c.from_residual-in_err-keep_longest.result c.from_residual-in_err-keep_longest.ensures.1

pub returns-then-branch-clause-ok : goal.returns-then-branch-clause-ok
returns-then-branch-clause-ok g c =
    let machine : Machine = g.M.Engine.flat c.args.machine in
    let was : c.nodes.frontier.items ≡ c.pop.new.self.items ++ c.in-Some.node ∷ [] = c.in-Some.ensures.items in
    let offered : c.push_successors.new.offered.items ≡ successors c.args.script.now c.args.script.now.processes c.in-Some.node = search rules in
    let whole = c.in_ok-is_whole.ensures.0 (search rules) in
    let none : successors c.args.script.now c.args.script.now.processes c.in-Some.node ≡ [] = sym offered ∙ sym c.deref.ensures.value ∙ whole.0 in
    let fills : AllFill c.args.script.now c.args.log.now c.in-Some.node.run.events = search (rules, whole.1) in
    let explained =
    legal c.args.script.now c.args.log.now machine c.nodes.explored.keys c.nodes.frontier.items c.pop.new.self.items c.in-Some.node (length c.nodes.stuck.events) c.nodes.invariant.explored was none fills in
    let events : c.into_events.result.items ≡ c.in-Some.node.run.events = search rules in
    subst (IsExplained c.args.script.now c.args.log.now (fresh machine)) (sym events) explained

pub returns-in-Err-admit_all-clause-err : goal.returns-in-Err-admit_all-clause-err
returns-in-Err-admit_all-clause-err g c =
    let machine : Machine = g.M.Engine.flat c.args.machine in
    let was : c.nodes.frontier.items ≡ c.pop.new.self.items ++ c.in-Some.node ∷ [] = c.in-Some.ensures.items in
    let offered : c.push_successors.new.offered.items ≡ successors c.args.script.now c.args.script.now.processes c.in-Some.node = search rules in
    let not = c.if-branch.false in
    let part : (successors c.args.script.now c.args.script.now.processes c.in-Some.node ≡ []) × AllFill c.args.script.now c.args.log.now c.in-Some.node.run.events → ⊥ =
    λ h. (let t = c.in_ok-is_whole.ensures.1 (c.deref.ensures.value ∙ offered ∙ h.0, search (rules, h.1)) in absurd (cc)) in
    let longer : IsLonger c.args.script.now c.in-Some.node.run c.nodes.stuck c.keep_longest.new.stuck = search rules in
    let on = goes-on c.args.script.now c.args.log.now machine c.nodes.explored.keys c.nodes.frontier.items c.pop.new.self.items c.in-Some.node c.nodes.stuck c.keep_longest.new.stuck c.nodes.invariant.explored was part longer in
    c.in-Err-admit_all.ensures.err machine (length c.keep_longest.new.stuck.events)
    (permuted c.args.script.now c.args.log.now machine c.nodes.explored.keys c.pop.new.self.items c.push_successors.new.offered.items c.put_in_order.new.offered.items (length c.keep_longest.new.stuck.events) c.put_in_order.ensures (rw offered on))

pub nodes-preserved : goal.nodes-preserved
nodes-preserved g c =
    let machine : Machine = g.M.Engine.flat c.args.machine in
    let was : c.nodes.frontier.items ≡ c.pop.new.self.items ++ c.in-Some.node ∷ [] = c.in-Some.ensures.items in
    let offered : c.push_successors.new.offered.items ≡ successors c.args.script.now c.args.script.now.processes c.in-Some.node = search rules in
    let not = c.if-branch.false in
    let part : (successors c.args.script.now c.args.script.now.processes c.in-Some.node ≡ []) × AllFill c.args.script.now c.args.log.now c.in-Some.node.run.events → ⊥ =
    λ h. (let t = c.in_ok-is_whole.ensures.1 (c.deref.ensures.value ∙ offered ∙ h.0, search (rules, h.1)) in absurd (cc)) in
    let longer : IsLonger c.args.script.now c.in-Some.node.run c.nodes.stuck c.keep_longest.new.stuck = search rules in
    let on = goes-on c.args.script.now c.args.log.now machine c.nodes.explored.keys c.nodes.frontier.items c.pop.new.self.items c.in-Some.node c.nodes.stuck c.keep_longest.new.stuck c.nodes.invariant.explored was part longer in
    record {
      few = c.in_default-admit_all.ensures.few;
      explored =
          c.in_default-admit_all.ensures.kept machine (length c.keep_longest.new.stuck.events)
          (permuted c.args.script.now c.args.log.now machine c.nodes.explored.keys c.pop.new.self.items c.push_successors.new.offered.items c.put_in_order.new.offered.items (length c.keep_longest.new.stuck.events) c.put_in_order.ensures (rw offered on));
      stuck = stuck-on c.args.script.now c.args.log.now (fresh machine) c.pop.new.self.items c.nodes.frontier.items c.in-Some.node c.nodes.stuck c.keep_longest.new.stuck c.nodes.invariant.explored.unexpanded was longer c.nodes.invariant.stuck;
    }

pub nodes-smaller : goal.nodes-smaller
nodes-smaller g c =
    let was : c.nodes.frontier.items ≡ c.pop.new.self.items ++ c.in-Some.node ∷ [] = c.in-Some.ensures.items in
    let long = ap (λ (bs : List Node). length bs) was ∙ length-append c.pop.new.self.items (c.in-Some.node ∷ []) in
    omega (arith, c.nodes.invariant.few, c.in_default-admit_all.ensures.few, c.in_default-admit_all.ensures.count, long)

pub returns-clause-ok : goal.returns-clause-ok
returns-clause-ok g c =
    let none : c.nodes.frontier.items ≡ [] = search rules in
    illegal c.args.script.now c.args.log.now (g.M.Engine.flat c.args.machine) c.nodes.explored.keys c.nodes.frontier.items c.nodes.stuck c.nodes.invariant.explored none c.nodes.invariant.stuck
