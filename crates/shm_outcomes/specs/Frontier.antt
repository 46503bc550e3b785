-- The frontier of a search by levels. A state is a group of runs with the replies to each process; a path adds a schedule that leads to it.
use Rattle.std.specs.Prelude.{◌≡◌, ◌≤◌, ◌<◌, ◌⊎◌, ℕ, ◌+◌, List, [], ◌∷◌, ◌++◌, map, Option, Some, None, Contains, slice_index_or}
use Rattle.shm_base.specs.declared.call.Process.{Process}
use Rattle.shm_base.specs.declared.call.Reply.{Reply}
use Rattle.shm_text.specs.Script.{ScriptView}
use Rattle.shm_schedules.specs.Outcomes.{replies_after}
use Rattle.shm_schedules.specs.Schedules.{Run, walked}
use Rattle.shm_schedules.specs.Finding.{Finding}
use Rattle.shm_outcomes.specs.Search.{IsInserted}
use Rattle.shm_outcomes.specs.declared.transitions.Transition.{Transition}

pub record State : Type 0 where
  pub group : ℕ
  pub replies : List (List Reply)

pub record Path : Type 0 where
  pub state : State
  pub schedule : List ℕ

abbrev pub state_in : Path → State
state_in w = w.state

abbrev pub states_in : List Path → List State
states_in paths = map state_in paths

abbrev pub path : State → List ℕ → Path
path state schedule = record { state = state; schedule = schedule }

abbrev pub state : ℕ → List (List Reply) → State
state group replies = record { group = group; replies = replies }

-- a state with its schedule
abbrev pub path_in : State × List ℕ → Path
path_in entry = path entry.0 entry.1

-- the states of a level, each with its schedule, and how many states there are with those of fewer calls
pub record Frontier : Type 0 where
  pub paths : List Path
  pub count : ℕ

abbrev pub empty_frontier : ℕ → Frontier
empty_frontier count = record { paths = []; count = count }

-- ADDING

-- the state is appended, unless it is there; the bound is on the states of all levels
abbrev pub IsAdded : ℕ → Path → Frontier → Frontier → Type 0
IsAdded most w olds news =
    (Contains (states_in olds.paths) w.state × (news ≡ olds))
    ⊎ ((Contains (states_in olds.paths) w.state → ⊥) × (olds.count < most) × (news ≡ record { paths = olds.paths ++ w ∷ []; count = olds.count + 1 }))

abbrev pub AreAdded : ℕ → List Path → Frontier → Frontier → Type 0
AreAdded most [] olds news = olds ≡ news
AreAdded most (w ∷ paths) olds news = (mid : Frontier) × IsAdded most w olds mid × AreAdded most paths mid news

-- the state is not there, and there are as many as the bound allows
abbrev pub IsOneTooMany : Path → Frontier → ℕ → Type 0
IsOneTooMany w olds most = (Contains (states_in olds.paths) w.state → ⊥) × (most ≤ olds.count)

-- one of these states was one too many, once those before it were added
pub record AreTooMany (paths : List Path) (olds : Frontier) (most : ℕ) : Type 0 where
  pub before : List Path
  pub path : Path
  pub after : List Path
  pub all : paths ≡ before ++ path ∷ after
  pub mid : Frontier
  pub added : AreAdded most before olds mid
  pub many : IsOneTooMany path mid most

-- SUCCESSORS

-- a state after one more call
abbrev pub path_after : List Process → Path → Transition → Path
path_after processes w m = path (state m.group (replies_after processes m.event w.state.replies)) (w.schedule ++ m.event.pid ∷ [])

-- its successors
abbrev pub paths_after : List Process → Path → List Transition → List Path
paths_after processes w transitions = map (path_after processes w) transitions

-- ENDS

-- the outcome is inserted with the run that has it
abbrev pub IsEndInserted : Option Run → List (List Reply) → List Finding → List Finding → Type 0
IsEndInserted None replies olds news = news ≡ olds
IsEndInserted (Some run) replies olds news = IsInserted olds (record { events = run.events; outcome = replies }) news

-- a state is expanded: its successors are added; if it has none, its outcome is inserted
abbrev pub IsExpanded : ScriptView → Run → ℕ → List Transition → Path → Frontier → Frontier → List Finding → List Finding → Type 0
IsExpanded script first most transitions w olds news before found =
    ((transitions ≡ []) × (news ≡ olds) × IsEndInserted (walked script w.schedule first) w.state.replies before found)
    ⊎ ((transitions ≡ [] → ⊥) × (found ≡ before) × AreAdded most (paths_after script.processes w transitions) olds news)

-- states are expanded in turn
abbrev pub AreExpanded : ScriptView → Run → ℕ → List (List Transition) → List Path → Frontier → Frontier → List Finding → List Finding → Type 0
AreExpanded script first most transitions [] olds news before found = (olds ≡ news) × (before ≡ found)
AreExpanded script first most transitions (w ∷ paths) olds news before found =
    (mid : Frontier) × (between : List Finding)
    × IsExpanded script first most (slice_index_or transitions w.state.group []) w olds mid before between
    × AreExpanded script first most transitions paths mid news between found

-- one of these states has a successor too many, once those before it were expanded
pub record IsStopped (script : ScriptView) (first : Run) (transitions : List (List Transition)) (paths : List Path) (olds : Frontier) (before : List Finding) (most : ℕ) : Type 0 where
  pub done : List Path
  pub path : Path
  pub rest : List Path
  pub all : paths ≡ done ++ path ∷ rest
  pub mid : Frontier
  pub between : List Finding
  pub expanded : AreExpanded script first most transitions done olds mid before between
  pub many : AreTooMany (paths_after script.processes path (slice_index_or transitions path.state.group [])) mid most
