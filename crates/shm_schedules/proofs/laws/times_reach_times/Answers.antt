use Rattle.shm_schedules.proofs.Timeless as timeless
use Rattle.shm_schedules.proofs.laws.times_reach_times.Goals as goal

pub returns : goal.returns
returns c = record { law = timeless.times_reach_times }
