use Rattle.std.proofs.Common.{◌≡◌, ◌≤◌, take, vec_capacity}
use Rattle.shm_pager.proofs.sparse.copied_rooms.Given as goal

abbrev pub invariant-loop-place : goal.invariant-loop-place
invariant-loop-place l = (l.copy.items ≡ take l.place-index l.place-items) × (l.slots ≤ vec_capacity l.copy)
