use Rattle.shm_threads.proofs.Names.{◌≡◌, ◌++◌, drop, rounds_of}
use Rattle.shm_threads.proofs.flusher.rounds.Given as goal

-- the rounds so far, and then those of the lines that are left
abbrev pub invariant-loop-line : goal.invariant-loop-line
invariant-loop-line l = l.rounds.items ++ rounds_of (drop l.line-index l.lines) ≡ rounds_of l.lines
