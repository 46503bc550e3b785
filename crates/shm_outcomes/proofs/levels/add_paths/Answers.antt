use Rattle.shm_outcomes.proofs.Names.{rules, sym, path}
use Rattle.shm_outcomes.proofs.Adding.{added-at, full-at}
use Rattle.shm_outcomes.proofs.levels.add_paths.Goals as goal

pub returns-in_err-add_path-clause-err : goal.returns-in_err-add_path-clause-err
returns-in_err-add_path-clause-err c =
    let full =
    full-at c.args.script.now.processes (path c.args.state.now c.args.schedule.now) c.args.transitions.now c.loop-transition.transition-index c.transition-item.result c.args.next.now c.loop-transition.next c.args.most c.in_err-add_path.field-0.0
    c.loop-transition-test.true (sym c.transition-item.is) c.loop-transition.invariant c.in_err-add_path.ensures.err in
    search rules

pub loop-transition-preserved : goal.loop-transition-preserved
loop-transition-preserved c =
    added-at c.args.script.now.processes (path c.args.state.now c.args.schedule.now) c.args.transitions.now c.loop-transition.transition-index c.transition-item.result c.args.next.now c.loop-transition.next c.add_path.new.next c.args.most
    c.loop-transition-test.true (sym c.transition-item.is) c.loop-transition.invariant c.in_ok-add_path.ensures.ok
