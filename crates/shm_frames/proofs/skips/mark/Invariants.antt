use Rattle.std.proofs.Common.{◌≡◌, ◌≤◌, ◌+◌, ◌/◌, ◌⊎◌, length, false, vec_capacity}
use Rattle.shm_base.specs.Stored.{padded}
use Rattle.shm_frames.proofs.skips.mark.Given as goal

abbrev pub invariant-loop-block : goal.invariant-loop-block
invariant-loop-block l = (l.marks.items ≡ padded l.initial.marks.items l._block false)
    × (length l.initial.marks.items ≤ l._block)
    × (vec_capacity l.marks ≡ vec_capacity l.initial.marks)
    × ((l._block ≤ l.frame / 64 + 1) ⊎ (l._block ≡ length l.initial.marks.items))
