use Rattle.std.proofs.Common.{◌≡◌, ◌<◌, ◌≤◌, ◌*◌, ℕ, true}
use Rattle.shm_frames.specs.Skips.{is_skipped}
use Rattle.shm_frames.proofs.skips.Skips.next.Given as goal

abbrev pub invariant-loop-block : goal.invariant-loop-block
invariant-loop-block l = (i : ℕ) → l.from ≤ i → i < l.block * 64 → is_skipped l.self i ≡ true
