use Rattle.std.proofs.Common.{◌≡◌, ◌∙◌, ap₂, codes, max, rules}
use Rattle.std.proofs.lemmas.Result.{IfOk-weaker}
use Rattle.clap.specs.Words.{app_of, new_app, rule_of, with_rule}
use Rattle.shmsim.specs.Words.{command_line, mode_argument, swap_argument}
use Rattle.shmsim.proofs.Reading.{some-is}
use Rattle.shmsim.proofs.command.command_line.Goals as goal

pub returns : goal.returns
unfolding command_line
returns c =
    let start : c.new-4.result.start ≡ 1 = search rules in
    let end : c.new-4.result.end ≡ 8 = search rules in
    let some = some-is c.num_args.result.num_vals (record { start_inclusive = c.new-4.result.start; end_inclusive = max c.new-4.result.end c.new-4.result.start }) c.num_args.ensures.1 in
    let range = rw (start, end) at some in
    let mode_is : rule_of c.required-mode.result ≡ mode_argument = search rules in
    let swap_is : rule_of c.action-swap.result ≡ swap_argument = search rules in
    let first_is : app_of c.in_ok-command.command ≡ with_rule (new_app (codes "shmsim")) mode_argument = c.in_ok-command.ensures.shape (search rules) ∙ ap₂ with_rule c.new-2.ensures.app mode_is in
    IfOk-weaker c.arg-2.result _ _ (λ r adds. adds.shape (search rules) ∙ ap₂ with_rule first_is swap_is) c.arg-2.ensures
