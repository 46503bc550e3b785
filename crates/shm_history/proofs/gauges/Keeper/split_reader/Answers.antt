use Rattle.std.proofs.Common.{rules}
use Rattle.shm_history.proofs.Cells.{forks}
use Rattle.shm_history.proofs.gauges.Keeper.split_reader.Goals as goal

pub split_pass-requires : goal.split_pass-requires
split_pass-requires c = (search rules, (search rules, (search rules, forks _ _)))
