-- The levels of a search: level n has the runs with n calls.
use Rattle.std.specs.Prelude.{◌<◌, ℕ, List, [], ◌∷◌, Contains, length}
use Rattle.shm_text.specs.Script.{ScriptView}
use Rattle.shm_outcomes.specs.Nodes.{root}
use Rattle.shm_outcomes.specs.Groups.{AreAllTransitions, ArePut, Groups, group_key_at, no_groups}
use Rattle.shm_outcomes.specs.Frontier.{AreExpanded, IsStopped, Frontier, Path, state, empty_frontier, path}
use Rattle.shm_schedules.specs.Schedules.{Run}
use Rattle.shm_schedules.specs.Finding.{Finding}
use Rattle.shm_outcomes.specs.declared.transitions.Transition.{Transition}

pub record Level : Type 0 where
  pub groups : Groups
  pub frontier : Frontier

-- each state is of a group
abbrev pub AreWithin : Level → Type 0
AreWithin level = (w : Path) → Contains level.frontier.paths w → w.state.group < length level.groups.all

abbrev pub first_level : ScriptView → Run → Level
first_level script first =
    let b = root script first in
    record {
      groups = record { keys = group_key_at script b ∷ []; all = b ∷ [] };
      frontier = record { paths = path (state 0 b.replies) [] ∷ []; count = 1 };
    }

-- the states of a level are expanded, and their successors are the next level
pub record IsNextLevel (script : ScriptView) (first : Run) (most : ℕ) (level next : Level) (before found : List Finding) : Type 0 where
  pub transitions : List (List Transition)
  pub all : AreAllTransitions script next.groups level.groups.all transitions
  pub put : ArePut script level.groups.all no_groups next.groups
  pub expanded : AreExpanded script first most transitions level.frontier.paths (empty_frontier level.frontier.count) next.frontier before found

-- there are too many states
pub record IsLevelFull (script : ScriptView) (first : Run) (level : Level) (before : List Finding) (most : ℕ) : Type 0 where
  pub groups : Groups
  pub transitions : List (List Transition)
  pub all : AreAllTransitions script groups level.groups.all transitions
  pub put : ArePut script level.groups.all no_groups groups
  pub stopped : IsStopped script first transitions level.frontier.paths (empty_frontier level.frontier.count) before most
