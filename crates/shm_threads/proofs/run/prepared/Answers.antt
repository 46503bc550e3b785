use Rattle.shm_threads.proofs.Names.{rules}
use Rattle.shm_threads.proofs.Starts.{running-prepared}
use Rattle.shm_threads.proofs.run.prepared.Goals as goal

pub returns-clause-running : goal.returns-clause-running
returns-clause-running g c = running-prepared c.args.script.now c.args.world.now c.reserve.new.self c.in_ok-strands.strands.items c.requires c.history.ensures.legal c.in_ok-reserve.ensures.rest c.in_ok-strands.ensures.pids c.in_ok-strands.ensures.fresh (search rules)
