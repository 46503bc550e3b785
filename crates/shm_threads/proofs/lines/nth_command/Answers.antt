use Rattle.shm_threads.proofs.Names.{◌≡◌, ◌∙◌, ◌+◌, ◌++◌, ◌∷◌, [], List, ap, append_assoc, arith, drop, rules, sym, length_push, CommandView, commands_in, commands_of}
use Rattle.shm_threads.proofs.Remaining.{from-line}
use Rattle.shm_threads.proofs.lines.nth_command.Goals as goal
use Rattle.shm_threads.proofs.lines.nth_command.Goals.{in-Some+else-left-eq0, in_default}

pub loop-line-preserved : goal.loop-line-preserved
loop-line-preserved c =
    let at = c.loop-line in
    let rest = commands_of c.args.pid (drop (at.line-index + 1) c.args.lines.now) in
    let left = from-line c.args.pid c.args.lines.now at.line-index c.line-item.result (omega (arith, c.loop-line-test.true, at.auto.line-index-end)) (search rules) (commands_in c.command_of.result) c.command_of.ensures in
    let (before, whole, many, some) = at.invariant in
    elim c.match-command_of.branch [
      | in-Some+else-left-eq0 w ↦
          let command = w.in-Some.command.now in
          let mine : commands_of c.args.pid (drop at.line-index c.args.lines.now) ≡ command ∷ rest = left ∙ ap (λ o. commands_in o ++ rest) w.in-Some.is in
          (before ++ command ∷ [], append_assoc before (command ∷ []) rest ∙ ap (λ (cs : List CommandView). before ++ cs) (sym mine) ∙ whole, omega (arith, length_push before command, many, some, w.left-is), omega (arith, w.left-is, w.if-left-eq0.false, some))
      | in_default w ↦
          let none : commands_of c.args.pid (drop at.line-index c.args.lines.now) ≡ rest = left ∙ ap (λ o. commands_in o ++ rest) w.in_default.is in
          (before, ap (λ (cs : List CommandView). before ++ cs) (sym none) ∙ whole, omega (arith, many, w.left-is), omega (arith, some, w.left-is))
    ]
