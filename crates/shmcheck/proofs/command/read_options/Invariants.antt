use Rattle.std.proofs.Common.{◌≡◌, length, map, string_bytes}
use Rattle.shmcheck.specs.Words.{options_of, plain}
use Rattle.shmcheck.proofs.command.read_options.Given as goal

-- what is left, with the options so far, asks for what all words ask
abbrev pub invariant-loop-left : goal.invariant-loop-left
invariant-loop-left l = options_of (map string_bytes l.left) l.options ≡ options_of (map string_bytes l.words) (plain l.most)

abbrev pub decreases-loop-left : goal.decreases-loop-left
decreases-loop-left l = length l.left
