-- The state of a judge's search. It explores the beginnings of a log. Of those with one key it explores one, because they have the
-- same continuations. The frontier has the nodes whose successors are still to be generated.
use Rattle.std.specs.Prelude.{◌≡◌, ◌⊎◌, ◌<◌, ◌≤◌, ℕ, List, [], ◌∷◌, ◌++◌, All, Contains, flat_map, length, Option, Some, None}
use Rattle.std.specs.List.{AllPairs}
use Rattle.shm_base.specs.Calls.{ProcessCall}
use Rattle.shm_base.specs.State.{Machine}
use Rattle.shm_base.specs.declared.call.Process.{Process}
use Rattle.shm_text.specs.Script.{ScriptView}
use Rattle.shm_judge.specs.Logs.{Answer, AllBegin, AllFill}
use Rattle.shm_outcomes.specs.Keys.{AreOther, Key, key_of}
use Rattle.shm_outcomes.specs.Nodes.{Node, key_at, successor}
use Rattle.shm_outcomes.specs.Search.{IfBound}
use Rattle.shm_schedules.specs.Schedules.{Run, fresh, goes, next, IsOver, IsReached}
use Rattle.shm_judge.specs.Stuck.{Stuck}
use Rattle.shm_schedules.specs.declared.search_error.SearchError.{SearchError}
use Rattle.shm_judge.specs.Judge.{IsBeginning, IsDoubt, stuck_at}

-- SUCCESSORS

abbrev pub one_successor : ScriptView → Node → ℕ → Option ProcessCall → List Node
one_successor script b pid None = []
one_successor script b pid (Some call) = successor script b pid call ∷ []

-- the nodes after one more call of one of these processes, in their order
abbrev pub successors : ScriptView → List Process → Node → List Node
successors script processes b = flat_map (λ (p : Process). one_successor script b p.pid (next script b.run p.pid)) processes

-- NODES

-- a schedule leads to the node's run, and the node has the run's key
abbrev pub IsNode : ScriptView → Run → Node → Type 0
IsNode script first b = IsReached script first b.run × (key_at b ≡ key_of script first b.run)

-- and the run begins the log
abbrev pub IsOpen : ScriptView → List (List Answer) → Run → Node → Type 0
IsOpen script log first b = IsNode script first b × AllBegin script log b.run.events

-- one of the nodes has this run
abbrev pub HasRun : List Node → Run → Type 0
HasRun nodes run = (b : Node) × Contains nodes b × (b.run ≡ run)

-- ADMITTING

-- it begins the log, and no node with its key was admitted
pub record IsNew (script : ScriptView) (log : List (List Answer)) (explored : List Key) (b : Node) : Type 0 where
  pub begins : AllBegin script log b.run.events
  pub other : Contains explored (key_at b) → ⊥

pub record IsPut (b : Node) (olds news : List Key) (before later : List Node) : Type 0 where
  pub explored : news ≡ olds ++ key_at b ∷ []
  pub frontier : later ≡ before ++ b ∷ []

pub record IsLeft (script : ScriptView) (log : List (List Answer)) (b : Node) (olds news : List Key) (before later : List Node) : Type 0 where
  pub why : (AllBegin script log b.run.events → ⊥) ⊎ Contains olds (key_at b)
  pub explored : news ≡ olds
  pub frontier : later ≡ before

-- a new node is added to the frontier, and its key to those that were explored
abbrev pub IsAdmitted : ScriptView → List (List Answer) → Node → List Key → List Key → List Node → List Node → Type 0
IsAdmitted script log b olds news before later =
    IsLeft script log b olds news before later ⊎ (IsNew script log olds b × IsPut b olds news before later)

abbrev pub IsTooMany : ScriptView → List (List Answer) → Node → List Key → ℕ → SearchError → Type 0
IsTooMany script log b explored most error = IfBound (IsNew script log explored b × (most ≤ length explored)) error

-- THE STATE

-- a run whose successors were generated: it does not have all of the log, is no longer than the longest, and each run after it that
-- begins the log was explored, or is among those offered
pub record IsExpanded (script : ScriptView) (log : List (List Answer)) (first : Run) (explored : List Key) (offered : List Node) (longest : ℕ) (run : Run) : Type 0 where
  pub part : IsOver script run → AllFill script log run.events → ⊥
  pub short : length run.events ≤ longest
  pub onwards : (pid : ℕ) (m : Run) → goes script pid run ≡ Some m → AllBegin script log m.events → Contains explored (key_of script first m) ⊎ HasRun offered m

-- a run with this key begins the log, and is in the frontier, or was expanded
abbrev pub IsExplored : ScriptView → List (List Answer) → Run → List Key → List Node → List Node → ℕ → Key → Type 0
IsExplored script log first explored frontier offered longest key =
    (run : Run) × IsBeginning script log first run × (key ≡ key_of script first run)
    × (HasRun frontier run ⊎ IsExpanded script log first explored offered longest run)

-- the keys that were explored, the frontier, and the nodes still to be admitted
pub record AreExplored (script : ScriptView) (log : List (List Answer)) (first : Run) (explored : List Key) (frontier offered : List Node) (longest : ℕ) : Type 0 where
  pub begun : Contains explored (key_of script first first)
  pub each : (key : Key) → Contains explored key → IsExplored script log first explored frontier offered longest key
  pub apart : AllPairs AreOther explored
  pub unexpanded : All (IsOpen script log first) frontier
  pub nodes : All (IsNode script first) offered

-- a state of the search, whatever machine it began with
pub record SearchState : Type 0 where
  pub explored : List Key
  pub frontier : List Node
  pub offered : List Node

abbrev pub state : List Key → List Node → List Node → SearchState
state explored frontier offered = record { explored = explored; frontier = frontier; offered = offered }

-- it is one of a search of the log from this machine
abbrev pub IsState : ScriptView → List (List Answer) → Machine → ℕ → SearchState → Type 0
IsState script log machine longest s = AreExplored script log (fresh machine) s.explored s.frontier s.offered longest

-- the search goes on from a state to another
abbrev pub GoesOnTo : ScriptView → List (List Answer) → SearchState → SearchState → Type 0
GoesOnTo script log s t = (machine : Machine) (longest : ℕ) → IsState script log machine longest s → IsState script log machine longest t

-- the search ends at a state in doubt, for this reason
abbrev pub EndsInDoubt : ScriptView → List (List Answer) → ℕ → SearchState → SearchError → Type 0
EndsInDoubt script log most s error = (machine : Machine) (longest : ℕ) → IsState script log machine longest s → IsDoubt script log (fresh machine) most error

-- the longer of two beginnings
abbrev pub IsLonger : ScriptView → Run → Stuck → Stuck → Type 0
IsLonger script run old new =
    ((length old.events < length run.events) × (new ≡ stuck_at script run)) ⊎ ((length run.events ≤ length old.events) × (new ≡ old))
