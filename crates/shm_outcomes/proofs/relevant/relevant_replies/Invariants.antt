use Rattle.shm_outcomes.proofs.Names.{◌≡◌, ◌≤◌, ◌++◌, length, drop, relevant_replies}
use Rattle.shm_outcomes.proofs.relevant.relevant_replies.Given as goal

abbrev pub invariant-loop-line : goal.invariant-loop-line
invariant-loop-line l =
    (l.place ≤ length l.replies)
    × (l.all.items ++ relevant_replies l.pid (drop l.line-index l.lines) (drop l.place l.replies) ≡ relevant_replies l.pid l.lines l.replies)
