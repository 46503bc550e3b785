use Rattle.shm_outcomes.proofs.Names.{◌∷◌, [], take, AreTransitions, ArePut}
use Rattle.shm_outcomes.proofs.transitions.transitions_of.Given as goal

abbrev pub invariant-loop-process : goal.invariant-loop-process
invariant-loop-process g l = record {
  transitions : AreTransitions l.script l.next l.node (take l.process-index l.processes) l.all.items;
  put : ArePut l.script (l.node ∷ []) l.initial.next l.next;
}
