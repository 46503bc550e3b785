use Rattle.std.proofs.Common.{◌≡◌, ◌+◌, drop}
use Rattle.shm_conditions.specs.Tokens.{cut_from, uncut}
use Rattle.shm_conditions.proofs.tokens.tokens_of.Given as goal

abbrev pub invariant-loop-index : goal.invariant-loop-index
invariant-loop-index l = cut_from 1 uncut l.text ≡ cut_from (l.index + 1) l.cut (drop l.index l.text)
