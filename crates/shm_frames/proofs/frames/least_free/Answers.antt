use Rattle.std.proofs.Common.{arith}
use Rattle.shm_frames.proofs.Counts.{none-free}
use Rattle.shm_frames.proofs.frames.least_free.Goals as goal

pub returns-then-resident-used-clause-used : goal.returns-then-resident-used-clause-used
returns-then-resident-used-clause-used c = λ i l. none-free c.args.table.now.items c.args.resident c.requires.resident (omega arith) i (omega (arith, l))
