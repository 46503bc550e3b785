use Rattle.shm_life.proofs.Names.{◌≡◌, drop, are_pids}
use Rattle.shm_life.proofs.start.are_compared_pids_sound.Given as goal

-- what is left decides
abbrev pub invariant-loop-index : goal.invariant-loop-index
invariant-loop-index l = are_pids l.processes ≡ are_pids (drop l.index l.processes)
