use Rattle.shm_threads.proofs.Names.{◌≡◌, ◌++◌, drop, callers_of}
use Rattle.shm_threads.proofs.lines.callers.Given as goal

-- the pids so far, and then those of the lines that are left
abbrev pub invariant-loop-line : goal.invariant-loop-line
invariant-loop-line l = l.callers.items ++ callers_of (drop l.line-index l.lines) ≡ callers_of l.lines
