use Rattle.shm_slots.specs.View.{AllOwned}
use Rattle.shm_slots.proofs.swap.Swap.first_free.Given as goal

abbrev pub invariant-loop-i : goal.invariant-loop-i
invariant-loop-i g l = AllOwned l.self l.left_out l.i
