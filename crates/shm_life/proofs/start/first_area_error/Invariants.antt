use Rattle.shm_life.proofs.Names.{◌≡◌, ℕ, drop, are_sizes, map}
use Rattle.std.specs.Fn.{FnReturnsAt}
use Rattle.shm_life.proofs.start.first_area_error.Given as goal

-- what is left decides
abbrev pub invariant-loop-area : goal.invariant-loop-area
invariant-loop-area g l =
    (size : _ → ℕ) → ((a : _) (n : ℕ) → FnReturnsAt g.F.Fn l.slots a n → n ≡ size a) → are_sizes l.limits.most_slots (map size l.areas) ≡ are_sizes l.limits.most_slots (map size (drop l.area-index l.areas))
