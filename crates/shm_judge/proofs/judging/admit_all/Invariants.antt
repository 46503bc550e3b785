use Rattle.shm_judge.proofs.Names.{◌≡◌, ℕ, ◌+◌, ◌≤◌, length, AreExplored, fresh, Machine}
use Rattle.shm_judge.proofs.judging.admit_all.Given as goal

abbrev pub invariant-loop-node : goal.invariant-loop-node
invariant-loop-node g l = record {
  few : length l.explored.keys ≤ l.most;
  count : length l.frontier.items + length l.initial.explored.keys ≡ length l.initial.frontier.items + length l.explored.keys;
  kept :
      (machine : Machine) (longest : ℕ)
      → AreExplored l.script l.log (fresh machine) l.initial.explored.keys l.initial.frontier.items l.initial.offered.items longest
      → AreExplored l.script l.log (fresh machine) l.explored.keys l.frontier.items l.offered.items longest;
}

abbrev pub decreases-loop-node : goal.decreases-loop-node
decreases-loop-node g l = length l.offered.items
