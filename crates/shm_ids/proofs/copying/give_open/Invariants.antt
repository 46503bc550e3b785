use Rattle.shm_ids.proofs.Names.{◌≡◌, ℕ, if◌then◌else◌, not, nat_lt, length, is_taken, is_open, entry_at}
use Rattle.shm_ids.proofs.copying.give_open.Given as goal

-- the free ones of the indexes below this one were returned
abbrev pub invariant-loop-index : goal.invariant-loop-index
invariant-loop-index g l =
    ((i : ℕ) → is_taken l.indexes i ≡ (if nat_lt i l.index then not (is_open (entry_at l.entries.items i)) else nat_lt i (length l.entries.items)))
    × (l.indexes.room ≡ l.initial.indexes.room)
