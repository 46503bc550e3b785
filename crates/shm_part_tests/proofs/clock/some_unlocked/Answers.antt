use Rattle.std.proofs.Common.{arith, sym, ◌∙◌}
use Rattle.shm_clock.proofs.Eligible.{some_eligible}
use Rattle.shm_part_tests.specs.Unlocked.{is_unlocked}
use Rattle.shm_part_tests.proofs.clock.some_unlocked.Goals as goal

pub returns-then-may_go : goal.returns-then-may_go
returns-then-may_go c = λ found. some_eligible (is_unlocked c.args.locked) c.args.pinned c.args.frames.now c.args.hand c.loop-frame.frame c.requires (omega arith) (sym c.may_go.ensures ∙ c.if-may_go.true)
