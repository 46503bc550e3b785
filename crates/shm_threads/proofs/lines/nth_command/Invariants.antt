use Rattle.shm_threads.proofs.Names.{◌≡◌, ◌≤◌, ◌+◌, ◌++◌, List, length, drop, CommandView, commands_of}
use Rattle.shm_threads.proofs.lines.nth_command.Given as goal

-- the commands before it so far, and those of the lines that are left, among which it is
abbrev pub invariant-loop-line : goal.invariant-loop-line
invariant-loop-line l =
    (before : List CommandView)
    × (before ++ commands_of l.pid (drop l.line-index l.lines) ≡ commands_of l.pid l.lines)
    × (length before + l.left ≡ l.n)
    × (1 ≤ l.left)
