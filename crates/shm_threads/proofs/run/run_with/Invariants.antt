use Rattle.shm_threads.proofs.Names.{cell_of, stored_of}
use Rattle.shm_threads.proofs.run.run_with.Given as goal

-- the run began with this script, and with the world and the keeper that were passed in
abbrev pub ghosts-run_from : goal.ghosts-run_from
ghosts-run_from g a = record { script = a.script.now; start = a.world; cell = cell_of a.keeper; stored = stored_of a.keeper; answers = g.G.Gate.answers a.gate.now; is_kept = a.start.is_kept.value }
