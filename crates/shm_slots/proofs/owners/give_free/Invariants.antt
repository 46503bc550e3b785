use Rattle.std.proofs.Common.{◌≡◌, ℕ, if◌then◌else◌, nat_lt, is_some, get_or, None, length}
use Rattle.shm_base.specs.Numbers.{is_taken}
use Rattle.shm_slots.proofs.owners.give_free.Given as goal

-- the free ones of the slots below this one were returned
abbrev pub invariant-loop-slot : goal.invariant-loop-slot
invariant-loop-slot l =
    ((i : ℕ) → is_taken l.numbers i ≡ (if nat_lt i l.slot then is_some (get_or l.slots.items i None) else nat_lt i (length l.slots.items)))
    × (l.numbers.room ≡ l.initial.numbers.room)
