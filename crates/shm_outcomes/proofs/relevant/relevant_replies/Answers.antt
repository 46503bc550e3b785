use Rattle.shm_outcomes.proofs.Names.{rules, ◌≡◌, ◌∙◌, ◌++◌, List, ap, drop, sym, Reply}
use Rattle.shm_outcomes.proofs.Relevance.{relevant-skip}
use Rattle.shm_outcomes.proofs.relevant.relevant_replies.Goals as goal

pub loop-line-preserved-then-pid : goal.loop-line-preserved-then-pid
loop-line-preserved-then-pid c =
    let other : c.in-Command.command.pid ≡ c.args.pid → ⊥ = search rules in
    let skip = relevant-skip c.args.pid c.args.lines.now c.loop-line.line-index c.line-item.result c.in-Command.command (drop c.loop-line.place c.args.replies.now) c.loop-line-test.true c.line-item.is c.in-Command.is other in
    (c.loop-line.invariant.0, ap (λ (l : List Reply). c.loop-line.all.items ++ l) (sym skip) ∙ c.loop-line.invariant.1)
