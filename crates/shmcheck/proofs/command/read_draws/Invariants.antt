use Rattle.std.proofs.Common.{◌≡◌, length, map, string_bytes}
use Rattle.shmcheck.specs.Words.{draws_of}
use Rattle.shmcheck.proofs.command.read_draws.Given as goal

-- what is left, with the options so far, asks for what all words ask
abbrev pub invariant-loop-left : goal.invariant-loop-left
invariant-loop-left l = draws_of (map string_bytes l.left) l.draws ≡ draws_of (map string_bytes l.words) l.fn.draws

abbrev pub decreases-loop-left : goal.decreases-loop-left
decreases-loop-left l = length l.left
