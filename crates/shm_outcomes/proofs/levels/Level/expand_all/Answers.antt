use Rattle.shm_outcomes.proofs.Names.{rules, ◌≡◌, ap, Level}
use Rattle.shm_outcomes.proofs.Adding.{state-by, stopped-at, expanded-at}
use Rattle.shm_outcomes.proofs.levels.Level.expand_all.Goals as goal

pub offset_bounds-transitions-group : goal.offset_bounds-transitions-group
offset_bounds-transitions-group g c =
    let same : c.self.inside.frontier ≡ c.args.self.now.frontier = ap (λ (l : Level). l.frontier) c.self.view_is in
    let here =
    state-by c.self.inside.frontier c.args.self.now.frontier c.args.transitions.now c.loop-index.index c.len-index-end.result c.group.result c.state-state.result.now c.schedule-schedule.result.now
    same (search rules) c.loop-index-test.true c.state-state.ensures c.schedule-schedule.ensures (search rules) c.requires.within in
    let lt = here.within in
    search rules

pub bounds-transitions-group : goal.bounds-transitions-group
bounds-transitions-group g c =
    let same : c.self.inside.frontier ≡ c.args.self.now.frontier = ap (λ (l : Level). l.frontier) c.self.view_is in
    let here =
    state-by c.self.inside.frontier c.args.self.now.frontier c.args.transitions.now c.loop-index.index c.len-index-end.result c.group.result c.state-state.result.now c.schedule-schedule.result.now
    same (search rules) c.loop-index-test.true c.state-state.ensures c.schedule-schedule.ensures (search rules) c.requires.within in
    here.within

pub returns-in_err-expand-clause-err : goal.returns-in_err-expand-clause-err
returns-in_err-expand-clause-err g c =
    let same : c.self.inside.frontier ≡ c.args.self.now.frontier = ap (λ (l : Level). l.frontier) c.self.view_is in
    let here =
    state-by c.self.inside.frontier c.args.self.now.frontier c.args.transitions.now c.loop-index.index c.len-index-end.result c.group.result c.state-state.result.now c.schedule-schedule.result.now
    same (search rules) c.loop-index-test.true c.state-state.ensures c.schedule-schedule.ensures (search rules) c.requires.within in
    let by =
    stopped-at c.args.script.now c.args.start.now c.args.most c.args.transitions.now c.args.self.now.frontier.paths c.loop-index.index c.group.result c.state-state.result.now c.schedule-schedule.result.now c.index-transitions-group.result _ c.loop-index.next c.args.found.now c.loop-index.found c.in_err-expand.field-0.0
    here c.index-transitions-group.is c.loop-index.invariant c.in_err-expand.ensures.err in
    search rules

pub loop-index-preserved : goal.loop-index-preserved
loop-index-preserved g c =
    let same : c.self.inside.frontier ≡ c.args.self.now.frontier = ap (λ (l : Level). l.frontier) c.self.view_is in
    let here =
    state-by c.self.inside.frontier c.args.self.now.frontier c.args.transitions.now c.loop-index.index c.len-index-end.result c.group.result c.state-state.result.now c.schedule-schedule.result.now
    same (search rules) c.loop-index-test.true c.state-state.ensures c.schedule-schedule.ensures (search rules) c.requires.within in
    expanded-at c.args.script.now c.args.start.now c.args.most c.args.transitions.now c.args.self.now.frontier.paths c.loop-index.index c.group.result c.state-state.result.now c.schedule-schedule.result.now c.index-transitions-group.result _ c.loop-index.next c.expand.new.next c.args.found.now c.loop-index.found c.expand.new.found
    here c.index-transitions-group.is c.loop-index.invariant c.in_ok-expand.ensures.ok
