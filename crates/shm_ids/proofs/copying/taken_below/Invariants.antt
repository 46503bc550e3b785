use Rattle.shm_ids.proofs.Names.{◌≡◌, ◌≤◌, ℕ, nat_lt, is_taken}
use Rattle.shm_ids.proofs.copying.taken_below.Given as goal

abbrev pub invariant-loop-number : goal.invariant-loop-number
invariant-loop-number l = ((i : ℕ) → is_taken l.numbers i ≡ nat_lt i l._number) × (l.count ≤ l.numbers.room)
