use Rattle.std.proofs.Common.{rules, arith, ◌≡◌, ◌-◌, ◌∙◌, take, drop, sym, subst, false, length-drop}
use Rattle.std.specs.Prelude.{IsUtf8}
use Rattle.std.specs.Fmt.{digits}
use Rattle.std.proofs.lemmas.List.{take_all}
use Rattle.std.proofs.lemmas.Str.{IsUtf8-from_ascii}
use Rattle.shm_print.proofs.Hexadecimal.{digits_ascii}
use Rattle.shm_print.proofs.digits.push_digits.Goals as goal

-- digits are text
pub unwrap-requires : goal.unwrap-requires
unwrap-requires c =
    let start = c.fill_digits-start.result in
    let room = c.fill_digits-start.new.room in
    let whole : take (64 - start) (drop start room) ≡ digits 16 false c.args.number =
    take_all (64 - start) (drop start room) (omega (arith, length-drop start room)) ∙ c.fill_digits-start.ensures.digits in
    let text = subst IsUtf8 (sym whole) (IsUtf8-from_ascii (digits 16 false c.args.number) (digits_ascii c.args.number)) in
    search (rules, text)
