use Rattle.std.proofs.Common.{replicate, ◌≡◌, ◌-◌, ◌≤◌, length}
use Rattle.shm_machine.proofs.copy.zeros.Given as goal

abbrev pub invariant-loop-part : goal.invariant-loop-part
invariant-loop-part l = (l.bytes.items ≡ replicate (length l.bytes.items) 0) × (length l.bytes.items ≤ l.len) × (l.part ≡ replicate 1024 0)

abbrev pub decreases-loop-part : goal.decreases-loop-part
decreases-loop-part l = l.len - length l.bytes.items
