use Rattle.std.proofs.Common.{◌≡◌, drop}
use Rattle.shm_schedules.specs.Digests.{with_replies}
use Rattle.shm_schedules.proofs.digests.with_replies.Given as goal

abbrev pub invariant-loop-reply : goal.invariant-loop-reply
invariant-loop-reply l = with_replies l.digest l.replies ≡ with_replies l.all (drop l.reply-index l.replies)
