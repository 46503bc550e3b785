use Rattle.shm_outcomes.proofs.Names.{rules, ◌≡◌, ◌<◌, ◌+◌, List, length, subst, sym, take, ℕ, slice_index_or, Node, AreAllTransitions, AreTransitions}
use Rattle.shm_outcomes.proofs.Grouping.{all-transitions-more, no-all-transitions, put-none, put-trans, put-wider}
use Rattle.shm_outcomes.proofs.transitions.all_transitions.Goals as goal

pub loop-group-preserved : goal.loop-group-preserved
loop-group-preserved g c =
    let bs : List Node = c.args.groups.now in
    let i : ℕ = c.loop-group.group-index in
    let is : c.group-item.result ≡ slice_index_or bs i c.group-item.result = c.group-item.is in
    let lt : i < length bs = c.loop-group-test.true in
    let same : c.deref.result.now ≡ c.args.script.now.processes = search rules in
    let own = subst (λ ps. AreTransitions c.args.script.now c.transitions_of.new.next c.group-item.result ps c.in_ok-one.one) same c.in_ok-one.ensures.transitions in
    let more = all-transitions-more c.args.script.now c.loop-group.next c.transitions_of.new.next bs c.loop-group.all.items i c.group-item.result c.in_ok-one.one lt (sym is) c.in_ok-one.ensures.put.stay c.loop-group.invariant.transitions own in
    let wide = put-wider c.args.script.now bs c.group-item.result c.loop-group.next c.transitions_of.new.next (i, lt, sym is) c.in_ok-one.ensures.put in
    record {
      transitions = subst (AreAllTransitions c.args.script.now c.transitions_of.new.next (take (i + 1) bs)) (sym c.in_ok-push.ensures.items) more;
      put = put-trans c.args.script.now bs c.args.next.now c.loop-group.next c.transitions_of.new.next c.loop-group.invariant.put wide;
    }

pub loop-group-init : goal.loop-group-init
loop-group-init g c =
    record {
      transitions = no-all-transitions c.args.script.now c.args.next.now c.in_ok-all.all.items c.in_ok-all.ensures.items;
      put = put-none c.args.script.now c.args.groups.now c.args.next.now;
    }
