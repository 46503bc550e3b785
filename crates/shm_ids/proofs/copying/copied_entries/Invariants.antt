use Rattle.std.proofs.Common.{◌≡◌, ◌≤◌, take, length, vec_capacity}
use Rattle.shm_ids.proofs.copying.copied_entries.Given as goal

abbrev pub invariant-loop-entry : goal.invariant-loop-entry
invariant-loop-entry g l = (l.copy.items ≡ take l.entry-index l.entry-items) × (length l.entry-items ≤ vec_capacity l.copy)
