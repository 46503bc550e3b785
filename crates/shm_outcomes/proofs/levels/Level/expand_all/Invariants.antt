use Rattle.shm_outcomes.proofs.Names.{take, AreExpanded, empty_frontier}
use Rattle.shm_outcomes.proofs.levels.Level.expand_all.Given as goal

abbrev pub invariant-loop-index : goal.invariant-loop-index
invariant-loop-index g l = AreExpanded l.script l.start l.most l.transitions (take l.index l.self.frontier.paths) (empty_frontier l.self.frontier.count) l.next l.initial.found l.found
