use Rattle.shm_outcomes.proofs.Names.{take, AreAllTransitions, ArePut}
use Rattle.shm_outcomes.proofs.transitions.all_transitions.Given as goal

abbrev pub invariant-loop-group : goal.invariant-loop-group
invariant-loop-group g l = record {
  transitions : AreAllTransitions l.script l.next (take l.group-index l.groups) l.all.items;
  put : ArePut l.script l.groups l.initial.next l.next;
}
