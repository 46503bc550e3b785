use Rattle.std.proofs.Common.{◌≡◌, ◌≤◌, length, drop}
use Rattle.shm_text.specs.Variables.{no_values}
use Rattle.shm_schedules.specs.Schedules.{next_call, replies_to}
use Rattle.shm_schedules.proofs.lines.next_call.Given as goal

abbrev pub invariant-loop-line : goal.invariant-loop-line
invariant-loop-line l =
    (l.place ≤ length l.events)
    × (next_call l.pid no_values l.lines (replies_to l.pid l.events) ≡ next_call l.pid l.vars (drop l.line-index l.lines) (replies_to l.pid (drop l.place l.events)))
