use Rattle.std.proofs.Common.{◌≡◌, ◌≤◌, ◌+◌, drop}
use Rattle.shm_conditions.specs.Naming.{count_lines}
use Rattle.shm_conditions.proofs.naming.count_lines.Given as goal

abbrev pub invariant-loop-line : goal.invariant-loop-line
invariant-loop-line l = (l.count ≤ l.line-index) × (count_lines l.pid l.lines ≡ l.count + count_lines l.pid (drop l.line-index l.lines))
