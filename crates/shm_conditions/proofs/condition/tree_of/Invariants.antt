use Rattle.std.proofs.Common.{◌≡◌, drop, Ok}
use Rattle.shm_conditions.specs.Reading.{no_tree, tree_from}
use Rattle.shm_conditions.proofs.condition.tree_of.Given as goal

abbrev pub invariant-loop-token : goal.invariant-loop-token
invariant-loop-token l = tree_from l.script (Ok no_tree) l.tokens ≡ tree_from l.script l.tree (drop l.token-index l.tokens)
