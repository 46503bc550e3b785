use Rattle.shm_outcomes.proofs.Names.{rules, ◌≡◌, ◌∙◌, [], ap, subst, sym, Machine, IsLevelFull, IsNextLevel, Level, first_level, Run, fresh, AreOutcomes, IfBound}
use Rattle.shm_outcomes.proofs.Complete.{AreSearched, first-cause, first-searched, less-left, next-cause, next-counted, next-searched, searched-all, within-level}
use Rattle.shm_outcomes.proofs.search.outcomes.Goals as goal

pub returns-in_err-level-clause-err : goal.returns-in_err-level-clause-err
returns-in_err-level-clause-err g c =
    let cause = first-cause c.args.script.now (g.M.Engine.flat c.args.machine) c.args.most c.in_err-level.field-0.0 c.in_err-level.ensures.err in
    search rules

pub levels-init : goal.levels-init
levels-init g c =
    let machine : Machine = g.M.Engine.flat c.args.machine in
    let start : c.in_ok-start.start ≡ fresh machine = search rules in
    let level : c.in_ok-level.level ≡ first_level c.args.script.now (fresh machine) = c.in_ok-level.ensures.ok ∙ ap (first_level c.args.script.now) start in
    let found : c.new-found.result ≡ [] = search rules in
    subst (λ (l : Level). AreSearched c.args.script.now machine c.args.most l c.new-found.result) (sym level)
    (subst (AreSearched c.args.script.now machine c.args.most (first_level c.args.script.now (fresh machine))) (sym found) (first-searched c.args.script.now machine c.args.most c.in_ok-level.ensures.few))

pub next-requires : goal.next-requires
next-requires g c = record { within = within-level c.args.script.now (g.M.Engine.flat c.args.machine) c.args.most c.levels.level c.levels.found c.levels.invariant }

pub returns-in_err-level-2-clause-err : goal.returns-in_err-level-2-clause-err
returns-in_err-level-2-clause-err g c =
    let machine : Machine = g.M.Engine.flat c.args.machine in
    let start : c.in_ok-start.start ≡ fresh machine = search rules in
    let by = subst (λ (r : Run). IfBound (IsLevelFull c.args.script.now r c.levels.level c.levels.found c.args.most) c.in_err-level-2.field-0.0) start c.in_err-level-2.ensures.err in
    let cause = next-cause c.args.script.now machine c.args.most c.levels.level c.levels.found c.in_err-level-2.field-0.0 c.levels.invariant by in
    search rules

pub levels-smaller : goal.levels-smaller
levels-smaller g c =
    let machine : Machine = g.M.Engine.flat c.args.machine in
    let start : c.in_ok-start.start ≡ fresh machine = search rules in
    let next = subst (λ (r : Run). IsNextLevel c.args.script.now r c.args.most c.levels.level c.in_ok-level-2.level c.levels.found c.next.new.found) start c.in_ok-level-2.ensures.ok in
    let some : c.levels.level.frontier.paths ≡ [] → ⊥ = search rules in
    let all = next-searched c.args.script.now machine c.args.most c.levels.level c.levels.found c.levels.invariant c.in_ok-level-2.level c.next.new.found next in
    less-left c.args.most c.levels.level c.in_ok-level-2.level some
    (next-counted c.args.script.now machine c.args.most c.levels.level c.levels.found c.levels.invariant c.in_ok-level-2.level c.next.new.found next) all.few

pub levels-preserved : goal.levels-preserved
levels-preserved g c =
    let machine : Machine = g.M.Engine.flat c.args.machine in
    let start : c.in_ok-start.start ≡ fresh machine = search rules in
    let next = subst (λ (r : Run). IsNextLevel c.args.script.now r c.args.most c.levels.level c.in_ok-level-2.level c.levels.found c.next.new.found) start c.in_ok-level-2.ensures.ok in
    next-searched c.args.script.now machine c.args.most c.levels.level c.levels.found c.levels.invariant c.in_ok-level-2.level c.next.new.found next

pub returns-clause-ok : goal.returns-clause-ok
returns-clause-ok g c =
    let machine : Machine = g.M.Engine.flat c.args.machine in
    let none : c.levels.level.frontier.paths ≡ [] = search rules in
    let all : c.in_ok-all.all.items ≡ c.levels.found = search rules in
    subst (AreOutcomes c.args.script.now (fresh machine)) (sym all) (searched-all c.args.script.now machine c.args.most c.levels.level c.levels.found c.levels.invariant none)
