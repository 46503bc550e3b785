use Rattle.std.proofs.Common.{◌≡◌, ◌∙◌, ap, map, string_bytes, subst, sym}
use Rattle.clap.specs.Words.{App, app_of, fault_of, is_simple, is_simple_and_free, kind_of, matches_of}
use Rattle.clap.specs.Kinds.{HasKind}
use Rattle.shmsim.specs.Words.{command_line, refusals_of, values_in}
use Rattle.shmsim.proofs.Refusing.{free-line, simple-line, stop-by}
use Rattle.shmsim.proofs.command.matched.Goals as goal

pub returns-in-Ok-try_get_matches_from-clause-taken : goal.returns-in-Ok-try_get_matches_from-clause-taken
unfolding refusals_of
returns-in-Ok-try_get_matches_from-clause-taken c =
    let is : app_of c.in-Ok.command ≡ command_line = c.in-Ok.ensures in
    let words = map string_bytes c.args.words.now in
    ap (λ (a : App). fault_of a words) (sym is) ∙ c.in-Ok-try_get_matches_from.ensures.kinds (ap is_simple_and_free is ∙ free-line)

pub returns-in-Ok-try_get_matches_from-clause-values : goal.returns-in-Ok-try_get_matches_from-clause-values
unfolding values_in
returns-in-Ok-try_get_matches_from-clause-values c =
    let is : app_of c.in-Ok.command ≡ command_line = c.in-Ok.ensures in
    let words = map string_bytes c.args.words.now in
    (c.in-Ok-try_get_matches_from.ensures.matches (ap is_simple is ∙ simple-line)).0 ∙ ap (λ (a : App). matches_of a words) is

pub returns-in-Err-clause-err : goal.returns-in-Err-clause-err
unfolding refusals_of
returns-in-Err-clause-err c =
    let is : app_of c.in-Ok.command ≡ command_line = c.in-Ok.ensures in
    let words = map string_bytes c.args.words.now in
    let kinds : HasKind (fault_of command_line words) c.in-Err.error = subst (λ (a : App). HasKind (fault_of a words) c.in-Err.error) is (c.in-Err.ensures.kinds (ap is_simple_and_free is ∙ free-line)) in
    rw c.from.ensures (stop-by (fault_of command_line words) (kind_of c.in-Err.error) kinds)
