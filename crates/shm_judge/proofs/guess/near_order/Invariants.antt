use Rattle.shm_judge.proofs.Names.{All, fresh, IsReached}
use Rattle.shm_judge.proofs.guess.near_order.Given as goal

abbrev pub invariant-loop : goal.invariant-loop
invariant-loop g l = All (IsReached l.script (fresh (g.M.Engine.flat l.fn.machine))) l.stack.items
