use Rattle.shm_life.proofs.Names.{◌≡◌, ◌≤◌, ℕ, true, drop, length, are_pids, has_pid, nat_eq}
use Rattle.std.specs.HashSet as set
use Rattle.shm_life.proofs.start.are_listed_pids_sound.Given as goal

-- the pids from here on are sound, and the set has them
abbrev pub invariant-loop-index : goal.invariant-loop-index
invariant-loop-index l =
    record {
      within : l.index ≤ length l.processes;
      sound : are_pids (drop l.index l.processes) ≡ true;
      seen : (q : ℕ) → set.contains nat_eq l.later q ≡ has_pid q (drop l.index l.processes);
    }

abbrev pub decreases-loop-index : goal.decreases-loop-index
decreases-loop-index l = l.index
