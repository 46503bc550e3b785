use Rattle.shm_attach.proofs.Names.{most_at, length, ◌<◌, ℕ, ◌≡◌, map, take, runner_at_start, runners_view}
use Rattle.shm_attach.proofs.spaces.Spaces.new.Given as goal

-- the processes so far are in order
abbrev pub invariant-loop-process : goal.invariant-loop-process
invariant-loop-process l =
    record {
      shown : runners_view l.by_pid.entries ≡ map runner_at_start (take l.process-index l.processes);
      room : (i : ℕ) → i < length l.by_pid.entries → most_at l.by_pid.entries i ≡ l.most;
    }
