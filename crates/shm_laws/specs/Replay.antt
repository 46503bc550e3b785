-- Replay: the opening and the calls determine the replies and the end; a call at which a pager failed did
-- nothing.
use Rattle.std.specs.Prelude.{◌≡◌, if◌then◌else◌, List, [], map}
use Rattle.shm_base.specs.declared.call.Call.TheVariants.{Load}
use Rattle.shm_base.specs.declared.call.Reply.TheVariants.{Bytes}
use Rattle.shm_base.specs.declared.call.Event.{Event}
use Rattle.shm_base.specs.State.{Machine, Opening}
use Rattle.shm_base.specs.History.{is_failure, IsHistory}
use Rattle.shm_history.specs.WorldState.{calls_of, failures_in}

-- a call at which a pager failed is replaced by one that accesses no byte
abbrev pub undone : Event → Event
undone e = if is_failure e.call e.reply then record { pid = e.pid; call = Load 0 0; reply = Bytes [] } else e

-- the history, with each failed call replaced by one that only takes its place
abbrev pub without_failures : List Event → List Event
without_failures events = map undone events

-- THE LAW. That history is legal too, leads to the same end, and has no failure; if no call failed, it is the
-- history itself. It is the only one without failures that has this opening and its calls: every such history
-- has the same replies and the same end
pub record IsReplayed (o : Opening) (events : List Event) (end : Machine) : Type 0 where
  pub legal : IsHistory o (without_failures events) end
  pub clear : failures_in (without_failures events) ≡ 0
  pub same : failures_in events ≡ 0 → without_failures events ≡ events
  pub only :
      (others : List Event) (other : Machine) → IsHistory o others other → failures_in others ≡ 0
      → calls_of others ≡ calls_of (without_failures events)
      → (others ≡ without_failures events) × (other ≡ end)
