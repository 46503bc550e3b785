use Rattle.shm_outcomes.proofs.Names.{◌∷◌, []}
use Rattle.shm_outcomes.proofs.Grouping.{no-transitions, put-none, put-trans, transitions-more}
use Rattle.shm_outcomes.proofs.transitions.transitions_of.Goals as goal

pub loop-process-preserved : goal.loop-process-preserved
loop-process-preserved g c =
    let put = c.in_ok-push_transition.ensures.put in
    record {
      transitions =
          transitions-more c.args.script.now c.loop-process.next c.push_transition.new.next c.args.node.now c.args.processes.now c.loop-process.all.items c.push_transition.new.all.items c.loop-process.process-index _
          c.loop-process-test.true put.stay c.loop-process.invariant.transitions c.in_ok-push_transition.ensures.more;
      put = put-trans c.args.script.now (c.args.node.now ∷ []) c.args.next.now c.loop-process.next c.push_transition.new.next c.loop-process.invariant.put put;
    }

pub loop-process-init : goal.loop-process-init
loop-process-init g c =
    record {
      transitions = no-transitions c.args.script.now c.args.next.now c.args.node.now c.in_ok-all.all.items c.in_ok-all.ensures.items;
      put = put-none c.args.script.now (c.args.node.now ∷ []) c.args.next.now;
    }
