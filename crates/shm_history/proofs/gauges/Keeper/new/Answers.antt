use Rattle.std.proofs.Common.{rules}
use Rattle.shm_history.proofs.Cells.{begins}
use Rattle.shm_history.proofs.gauges.Keeper.new.Goals as goal

pub ruled-requires : goal.ruled-requires
ruled-requires c = (search rules, (search rules, begins))
