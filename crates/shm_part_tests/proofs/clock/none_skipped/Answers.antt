use Rattle.std.proofs.Common.{arith, ◌+◌, ◌/◌}
use Rattle.shm_clock.proofs.Skipping.{skipped-none}
use Rattle.shm_part_tests.specs.Unlocked.{is_unlocked}
use Rattle.shm_part_tests.proofs.clock.none_skipped.Goals as goal

pub returns : goal.returns
returns c = rw c.in_ok-skips.ensures (skipped-none (is_unlocked 9) c.args.frames.now (c.count.result / 64 + 1) (omega (arith, c.count.ensures.size)))
