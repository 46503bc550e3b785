use Rattle.std.proofs.Common.{◌≡◌, ◌<◌, ◌≤◌, ℕ, false}
use Rattle.shm_frames.specs.Frame.{frame_at}
use Rattle.shm_clock.specs.Clock.{owner_passes}
use Rattle.shm_clock.proofs.clock.next_passing.Given as goal

abbrev pub ghost-passes : goal.ghost-passes
ghost-passes g a = g.passes

abbrev pub invariant-loop-frame : goal.invariant-loop-frame
invariant-loop-frame g l = ((i : ℕ) → l.first ≤ i → i < l.frame → owner_passes g.passes (frame_at l.frames i).owner ≡ false) × (l.frame ≤ l.last)
