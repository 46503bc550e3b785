use Rattle.shm_attach.proofs.Names.{◌≡◌, ℕ, length, entry_at}
use Rattle.shm_attach.proofs.keys.grow.Given as goal

abbrev pub invariant-loop : goal.invariant-loop
invariant-loop l =
    record {
      same : (i : ℕ) → entry_at l.entries.items i ≡ entry_at l.initial.entries.items i;
      count : length l.entries.items ≡ l.counter;
    }
