use Rattle.std.proofs.Common.{rules}
use Rattle.shm_history.proofs.Cells.{loads}
use Rattle.shm_history.proofs.gauges.Gauge.read.Goals as goal

pub load_as-words-requires : goal.load_as-words-requires
load_as-words-requires g c = (search rules, (search rules, (search rules, loads _ _ c.seat.invariant)))
