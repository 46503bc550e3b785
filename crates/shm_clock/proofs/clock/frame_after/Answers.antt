use Rattle.std.proofs.Common.{sym}
use Rattle.shm_clock.proofs.Ring.{ring_at-low, ring_at-high}
use Rattle.shm_clock.proofs.clock.frame_after.Goals as goal

pub returns-then-step-count-clause-number : goal.returns-then-step-count-clause-number
returns-then-step-count-clause-number c = sym (ring_at-low _ _ _ c.requires.hand c.if-step-count.true)

pub returns-else-step-count-clause-number : goal.returns-else-step-count-clause-number
returns-else-step-count-clause-number c = sym (ring_at-high _ _ _ c.requires.hand c.if-step-count.false c.requires.step)
