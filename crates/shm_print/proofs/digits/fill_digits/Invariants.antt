use Rattle.std.proofs.Common.{◌≡◌, ◌≤◌, length, drop, false}
use Rattle.std.specs.Fmt.{digits, digits_onto}
use Rattle.shm_print.proofs.digits.fill_digits.Given as goal

-- the digits that are left, before those that are there, are those of the number
abbrev pub invariant-loop-at : goal.invariant-loop-at
invariant-loop-at l = (l.at ≤ 64) × (length l.room ≡ 64) × (digits_onto l.at 16 false l.left (drop l.at l.room) ≡ digits 16 false l.number)

abbrev pub decreases-loop-at : goal.decreases-loop-at
decreases-loop-at l = l.at
