use Rattle.shm_judge.proofs.Names.{◌≡◌, ◌+◌, ◌-◌, ◌≤◌, [], length, IsBeginning, stuck_at, AreExplored, Run, fresh}
use Rattle.shm_judge.proofs.judging.searched.Given as goal

abbrev pub invariant-nodes : goal.invariant-nodes
invariant-nodes g l = record {
  few : length l.explored.keys ≤ l.most;
  explored : AreExplored l.script l.log (fresh (g.M.Engine.flat l.fn.machine)) l.explored.keys l.frontier.items [] (length l.stuck.events);
  stuck : (run : Run) × IsBeginning l.script l.log (fresh (g.M.Engine.flat l.fn.machine)) run × (l.stuck ≡ stuck_at l.script run);
}

abbrev pub decreases-nodes : goal.decreases-nodes
decreases-nodes g l = (l.most - length l.explored.keys) + length l.frontier.items
