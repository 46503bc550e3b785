use Rattle.std.proofs.Common.{arith, ◌-◌, ◌/◌, ◌%◌, drop, drop_of_length-le, sym, ap, ◌∙◌, false}
use Rattle.std.proofs.lemmas.List.{length-set}
use Rattle.std.specs.Fmt.{digits_onto, digit_glyph}
use Rattle.shm_print.proofs.Hexadecimal.{digits_whole, before, onto_last, onto_next}
use Rattle.shm_print.proofs.digits.fill_digits.Goals as goal

pub loop-at-init : goal.loop-at-init
loop-at-init c = (
  omega arith,
  c.told-room,
  ap (digits_onto 64 16 false c.args.number) (drop_of_length-le c.args.room.now {i = 64} (omega (arith, c.told-room))) ∙ digits_whole c.args.number,
)

-- the digit is before those that are there
pub loop-at-preserved : goal.loop-at-preserved
loop-at-preserved c =
    let l = c.loop-at in
    let written = before l.room l.at c.digit.result (digit_glyph false (l.left % 16)) c.loop-at-test.true (omega (arith, l.invariant.0, l.invariant.1)) c.digit.ensures in (
      omega (arith, l.invariant.0),
      length-set l.room (l.at - 1) c.digit.result ∙ l.invariant.1,
      ap (digits_onto (l.at - 1) 16 false (l.left / 16)) written ∙ sym (onto_next l.at l.left (drop l.at l.room) c.loop-at-test.true c.if-left-eq0.false) ∙ l.invariant.2,
    )

pub returns-then-left-eq0 : goal.returns-then-left-eq0
returns-then-left-eq0 c =
    let l = c.loop-at in
    let written = before l.room l.at c.digit.result (digit_glyph false (l.left % 16)) c.loop-at-test.true (omega (arith, l.invariant.0, l.invariant.1)) c.digit.ensures in
    record { start = omega (arith, l.invariant.0); digits = written ∙ sym (onto_last l.at l.left (drop l.at l.room) c.loop-at-test.true c.if-left-eq0.true) ∙ l.invariant.2 }
