use Rattle.shm_outcomes.proofs.Names.{◌≡◌, take, map, hidden}
use Rattle.shm_outcomes.proofs.masking.hidden_replies.Given as goal

abbrev pub invariant-loop-reply : goal.invariant-loop-reply
invariant-loop-reply l = l.all.items ≡ map hidden (take l.reply-index l.replies)
