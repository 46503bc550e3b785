use Rattle.std.proofs.Common.{◌≡◌, take}
use Rattle.shm_schedules.proofs.outcome.copied_lists.Given as goal

abbrev pub invariant-loop-one : goal.invariant-loop-one
invariant-loop-one l = l.all.items ≡ take l.one-index l.lists
