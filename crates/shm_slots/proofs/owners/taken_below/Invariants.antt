use Rattle.std.proofs.Common.{◌≡◌, ◌≤◌, ℕ, nat_lt}
use Rattle.shm_base.specs.Numbers.{is_taken}
use Rattle.shm_slots.proofs.owners.taken_below.Given as goal

abbrev pub invariant-loop-number : goal.invariant-loop-number
invariant-loop-number l = ((i : ℕ) → is_taken l.numbers i ≡ nat_lt i l._number) × (l.room ≤ l.numbers.room)
