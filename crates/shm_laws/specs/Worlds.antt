-- The guarantees of every world.
use Rattle.shm_base.specs.History.{IsHistory}
use Rattle.shm_life.specs.MachineView.{IsExactly}
use Rattle.shm_history.specs.WorldState.{WorldState, AreCounted}
use Rattle.shm_laws.specs.Lawful.{IsLawful}

-- a world's history is legal and keeps all laws; its memory shows the machine exactly; and the failures in the history were
-- counted
pub record IsWorldSound (w : WorldState) : Type 0 where
  pub legal : IsHistory w.opening w.events w.machine
  pub counted : AreCounted w.events w.memory.swap
  pub exact : IsExactly w.machine w.memory
  pub laws : IsLawful w.opening w.events w.machine
