use Rattle.shm_outcomes.proofs.Names.{take, AreAdded, path, paths_after}
use Rattle.shm_outcomes.proofs.levels.add_paths.Given as goal

abbrev pub invariant-loop-transition : goal.invariant-loop-transition
invariant-loop-transition l = AreAdded l.most (paths_after l.script.processes (path l.state l.schedule) (take l.transition-index l.transitions)) l.initial.next l.next
