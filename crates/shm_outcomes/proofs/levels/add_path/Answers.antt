use Rattle.shm_outcomes.proofs.Names.{rules, ◌≡◌, Contains, inl, refl, subst, IsAdded, IsOneTooMany, Path, path, path_after, states_in, IfBound}
use Rattle.shm_outcomes.proofs.levels.add_path.Goals as goal

pub returns-in_err-add-clause-err : goal.returns-in_err-add-clause-err
returns-in_err-add-clause-err c =
    let v : Path = path c.new-state.result c.in_ok-schedule.schedule in
    let is : v ≡ path_after c.args.script.now.processes (path c.args.state.now c.args.schedule.now) c.args.transition.now = search rules in
    let full = subst (λ (x : Path). IfBound (IsOneTooMany x c.args.next.now c.args.most) c.in_err-add.field-0.0) is c.in_err-add.ensures.err in
    search rules

pub returns-clause-ok : goal.returns-clause-ok
returns-clause-ok c =
    let v : Path = path c.new-state.result c.in_ok-schedule.schedule in
    let is : v ≡ path_after c.args.script.now.processes (path c.args.state.now c.args.schedule.now) c.args.transition.now = search rules in
    subst (λ (x : Path). IsAdded c.args.most x c.args.next.now c.add.new.self) is c.in_ok-add.ensures.added

pub returns-then-has-clause-ok : goal.returns-then-has-clause-ok
returns-then-has-clause-ok c =
    let v : Path = path_after c.args.script.now.processes (path c.args.state.now c.args.schedule.now) c.args.transition.now in
    let is : c.new-state.result ≡ v.state = search rules in
    inl (subst (Contains (states_in c.args.next.now.paths)) is (c.has.ensures.0 c.if-has.true), refl)
