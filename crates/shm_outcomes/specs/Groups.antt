-- Runs in groups: those of one group have the same continuations. They have as many calls, the same relevant replies, and the same
-- effects on the machine.
use Rattle.std.specs.Prelude.{◌≡◌, ◌<◌, ◌⊎◌, ℕ, ◌==◌, if◌then◌else◌, List, [], ◌∷◌, ◌++◌, map, length, Option, Some, None, All, Contains, slice_index_or}
use Rattle.std.specs.List.{AllPairs}
use Rattle.shm_base.specs.Calls.{ProcessCall}
use Rattle.shm_base.specs.declared.call.Process.{Process}
use Rattle.shm_base.specs.declared.call.Reply.{Reply}
use Rattle.shm_base.specs.declared.call.Reply.TheVariants.{Done}
use Rattle.shm_text.specs.Script.{ScriptView}
use Rattle.shm_text.specs.declared.script.Line.{Line}
use Rattle.shm_text.specs.declared.script.Line.TheVariants.{Command, Flush}
use Rattle.shm_outcomes.specs.Nodes.{Node, event_after, successor, key_at}
use Rattle.shm_outcomes.specs.Keys.{AreOther, Key, key_of}
use Rattle.shm_schedules.specs.Schedules.{Run, next}
use Rattle.shm_outcomes.specs.declared.transitions.Transition.{Transition}

-- RELEVANT REPLIES

-- a reply that sets no variable is as good as any other
abbrev pub relevant_reply : Option ℕ → Reply → Reply
relevant_reply None reply = Done
relevant_reply (Some v) reply = reply

-- of the replies to a process, those that set a variable are relevant
abbrev pub relevant_replies : ℕ → List Line → List Reply → List Reply
relevant_replies pid [] replies = []
relevant_replies pid (Flush pages ∷ lines) replies = relevant_replies pid lines replies
relevant_replies pid (Command c ∷ lines) [] = []
relevant_replies pid (Command c ∷ lines) (r ∷ replies) =
    if c.pid == pid then relevant_reply c.var r ∷ relevant_replies pid lines replies else relevant_replies pid lines (r ∷ replies)

abbrev pub relevant_all : List Line → List Process → List (List Reply) → List (List Reply)
relevant_all lines [] replies = []
relevant_all lines (p ∷ processes) [] = relevant_replies p.pid lines [] ∷ relevant_all lines processes []
relevant_all lines (p ∷ processes) (one ∷ replies) = relevant_replies p.pid lines one ∷ relevant_all lines processes replies

-- GROUPS

-- the key of the group of runs with a key
abbrev pub relevant_key : ScriptView → Key → Key
relevant_key script key = record { count = key.count; replies = relevant_all script.lines script.processes key.replies; effects = key.effects }

abbrev pub group_key_at : ScriptView → Node → Key
group_key_at script b = relevant_key script (key_at b)

abbrev pub group_key_of : ScriptView → Run → Run → Key
group_key_of script first run = relevant_key script (key_of script first run)

-- the keys of groups, and a run of each
pub record Groups : Type 0 where
  pub keys : List Key
  pub all : List Node

abbrev pub no_groups : Groups
no_groups = record { keys = []; all = [] }

-- the thing is at this place
abbrev pub IsAt : {X : Type 0} → List X → ℕ → X → Type 0
IsAt xs place x = (place < length xs) × ((d : _) → slice_index_or xs place d ≡ x)

-- a run's group is at this place; it is a new one, unless it was there
abbrev pub IsPut : ScriptView → Groups → Node → ℕ → Groups → Type 0
IsPut script olds b place news =
    IsAt news.keys place (group_key_at script b)
    × ((news ≡ olds) ⊎ ((Contains olds.keys (group_key_at script b) → ⊥) × (news ≡ record { keys = olds.keys ++ group_key_at script b ∷ []; all = olds.all ++ b ∷ [] })))

-- TRANSITIONS

-- the runs of a group continue by a process: the call with a reply, and the group of the runs after it
abbrev pub IsTransition : ScriptView → Groups → Node → ℕ → Transition → Type 0
IsTransition script nexts b pid t =
    (call : ProcessCall) × (next script b.run pid ≡ Some call) × (t.event ≡ event_after b.run pid call) × IsAt nexts.keys t.group (group_key_at script (successor script b pid call))

-- the transition by a process is appended, if it can continue
abbrev pub IsExtended : ScriptView → Groups → Node → ℕ → List Transition → List Transition → Type 0
IsExtended script nexts b pid olds news =
    ((next script b.run pid ≡ None) × (news ≡ olds)) ⊎ ((t : Transition) × IsTransition script nexts b pid t × (news ≡ olds ++ t ∷ []))

-- one of these is the transition by the process, if it can continue
abbrev pub Continues : ScriptView → Groups → Node → List Transition → Process → Type 0
Continues script nexts b transitions p =
    (next script b.run p.pid ≡ None) ⊎ ((t : Transition) × Contains transitions t × IsTransition script nexts b p.pid t)

-- the transitions of a group by these processes
pub record AreTransitions (script : ScriptView) (nexts : Groups) (b : Node) (processes : List Process) (transitions : List Transition) : Type 0 where
  pub each : All (λ (t : Transition). (pid : ℕ) × IsTransition script nexts b pid t) transitions
  pub all : All (Continues script nexts b transitions) processes

-- the transitions of each group
abbrev pub AreAllTransitions : ScriptView → Groups → List Node → List (List Transition) → Type 0
AreAllTransitions script nexts bs transitions =
    (length transitions ≡ length bs)
    × ((i : ℕ) (b : Node) → i < length bs → slice_index_or bs i b ≡ b → AreTransitions script nexts b script.processes (slice_index_or transitions i []))

-- the run of a group is that of one of these groups after one more call
abbrev pub IsFrom : ScriptView → List Node → Node → Type 0
IsFrom script olds b = (o : Node) × (pid : ℕ) × (call : ProcessCall) × Contains olds o × (next script o.run pid ≡ Some call) × (b ≡ successor script o pid call)

-- places stay what they were
abbrev pub StayThere : List Key → List Key → Type 0
StayThere olds news = (place : ℕ) (key : Key) → IsAt olds place key → IsAt news place key

-- what putting groups keeps
pub record ArePut (script : ScriptView) (froms : List Node) (olds news : Groups) : Type 0 where
  pub stay : StayThere olds.keys news.keys
  pub keyed : olds.keys ≡ map (group_key_at script) olds.all → news.keys ≡ map (group_key_at script) news.all
  pub apart : AllPairs AreOther olds.keys → AllPairs AreOther news.keys
  pub from : All (λ (b : Node). Contains olds.all b ⊎ IsFrom script froms b) news.all
