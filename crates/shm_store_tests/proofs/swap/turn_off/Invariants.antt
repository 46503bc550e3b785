use Rattle.std.proofs.Common.{◌≡◌, ℕ, ◌<◌, None}
use Rattle.shm_slots.specs.View.{owner_of}
use Rattle.shm_store_tests.proofs.swap.turn_off.Given as goal

abbrev pub invariant-loop-slot : goal.invariant-loop-slot
invariant-loop-slot g l = (k : ℕ) → k < l.slot → owner_of l.swap l.area k ≡ None
