use Rattle.shm_outcomes.proofs.Names.{rules, ◌≡◌, ◌<◌, ◌∙◌, ap, length, subst, sym, ℕ, AreAllTransitions, ArePut, Groups, no_groups}
use Rattle.shm_outcomes.proofs.Adding.{level-full}
use Rattle.shm_outcomes.proofs.levels.Level.next.Goals as goal

pub expand_all-requires : goal.expand_all-requires
expand_all-requires g c =
    let all : c.all-2.result.now ≡ c.args.self.now.groups.all = search rules in
    let items : c.deref.result.now ≡ c.in_ok-transitions.transitions.items = search rules in
    let long : length c.in_ok-transitions.transitions.items ≡ length c.args.self.now.groups.all = c.in_ok-transitions.ensures.transitions.0 ∙ ap (λ l. length l) all in
    record { within = λ w there. subst (λ (n : ℕ). w.state.group < n) (sym (ap (λ l. length l) items ∙ long)) (c.requires.within w there) }

pub returns-in_err-frontier-clause-err : goal.returns-in_err-frontier-clause-err
returns-in_err-frontier-clause-err g c =
    let all : c.all-2.result.now ≡ c.args.self.now.groups.all = search rules in
    let none : c.in_ok-groups.groups ≡ no_groups = search rules in
    let items : c.deref.result.now ≡ c.in_ok-transitions.transitions.items = search rules in
    let transitions = subst (AreAllTransitions c.args.script.now c.all_transitions.new.next c.args.self.now.groups.all) (sym items) (subst (λ bs. AreAllTransitions c.args.script.now c.all_transitions.new.next bs c.in_ok-transitions.transitions.items) all c.in_ok-transitions.ensures.transitions) in
    let put : ArePut c.args.script.now c.args.self.now.groups.all no_groups c.all_transitions.new.next =
    subst (λ (g : Groups). ArePut c.args.script.now c.args.self.now.groups.all g c.all_transitions.new.next) none (subst (λ bs. ArePut c.args.script.now bs c.in_ok-groups.groups c.all_transitions.new.next) all c.in_ok-transitions.ensures.put) in
    let cause = level-full c.args.script.now c.args.start.now c.args.self.now c.args.found.now c.args.most c.all_transitions.new.next c.deref.result.now c.in_err-frontier.field-0.0 transitions put c.in_err-frontier.ensures.err in
    search rules
