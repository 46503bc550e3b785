use Rattle.std.proofs.Common.{rules, arith, ◌≡◌, ◌∙◌, ◌-◌, ◌∷◌, ap, length, take, drop, true, false, Some, string_bytes}
use Rattle.std.specs.Prelude.{codes}
use Rattle.std.specs.Str.{bytes_eq}
use Rattle.std.proofs.lemmas.Grind.{common_steps}
use Rattle.shmcheck.specs.Words.{option_by}
use Rattle.shmcheck.proofs.Left.{masked_left, options_left}
use Rattle.shm_program.proofs.Words.{one_up}
use Rattle.shmcheck.proofs.command.read_options.Goals as goal

pub loop-left-preserved-then-eq : goal.loop-left-preserved-then-eq
loop-left-preserved-then-eq c =
    let left = c.loop-left.left.now in
    let name = c.name-item.result in
    let split = one_up left name c.in-len1-up.len_at_least (grind (arith, common_steps)) in
    let is : bytes_eq (string_bytes name) (codes "--masked") ≡ true = search rules in
    masked_left string_bytes left (take (length left - 1) (drop 1 left)) name c.loop-left.options _ split is c.loop-left.invariant

pub loop-left-preserved : goal.loop-left-preserved
loop-left-preserved c =
    let left = c.loop-left.left.now in
    let name = c.name-item.result in
    let value = c.value-item.result in
    let more = take (length left - 1) (drop 1 left) in
    let rest = take (length more - 1) (drop 1 more) in
    let first = one_up left name c.in-len1-up.len_at_least (grind (arith, common_steps)) in
    let second = one_up more value (grind (arith, common_steps)) (grind (arith, common_steps)) in
    let other : bytes_eq (string_bytes name) (codes "--masked") ≡ false = search rules in
    let read : option_by (string_bytes name) (string_bytes value) c.loop-left.options ≡ Some c.in_ok-options.options = search rules in
    options_left string_bytes left rest name value c.loop-left.options c.in_ok-options.options _ (first ∙ ap (λ l. name ∷ l) second) other read c.loop-left.invariant
