-- Keys: a key finds at most one segment.
use Rattle.std.specs.Prelude.{◌≡◌, ◌≢◌, ◌⊎◌, ℕ, ℤ, pos, List}
use Rattle.shm_base.specs.declared.flags.GetFlags.{GetFlags}
use Rattle.shm_base.specs.declared.call.Call.TheVariants.{Shmget}
use Rattle.shm_base.specs.declared.call.Reply.TheVariants.{Id}
use Rattle.shm_base.specs.declared.call.Event.{Event}
use Rattle.shm_base.specs.State.{Segment, Machine, Opening}
use Rattle.shm_base.specs.Identifier.{Invalid, look}
use Rattle.shm_laws.specs.Standing.{Stands, IsGone, EachMove, Always}
use Rattle.shm_laws.specs.Removal.{IsMarked}

-- the segment exists and has the key
pub record HasKey (s : Machine) (id key : ℕ) : Type 0 where
  pub segment : Segment
  pub stands : Stands s id segment
  pub keyed : segment.key ≡ key

-- at most one segment has a given key other than 0, which means no key; and a marked segment has none
pub record KeysAreApart (s : Machine) : Type 0 where
  pub one : (key a b : ℕ) → key ≢ 0 → HasKey s a key → HasKey s b key → a ≡ b
  pub marked : (id : ℕ) → IsMarked s id → HasKey s id 0

-- a segment has the key, and this is the segment
pub record IsFound (s : Machine) (key id : ℕ) : Type 0 where
  pub named : key ≢ 0
  pub has : HasKey s id key

-- no segment had the key; this one is new and has it
pub record IsCreated (s : Machine) (key id : ℕ) (t : Machine) : Type 0 where
  pub free : (key ≡ 0) ⊎ ((other : ℕ) → HasKey s other key → ⊥)
  pub never : look s.table (pos id) ≡ Invalid
  pub has : HasKey t id key

-- the segment that a shmget returns has the key of the call: it was found, or it was created
abbrev pub FindsByKey : Machine → Event → Machine → Type 0
FindsByKey s e t =
    (key size mode : ℕ) (flags : GetFlags) (answer : ℤ) → e.call ≡ Shmget key size mode flags
    → e.reply ≡ Id answer
    → (id : ℕ) × (answer ≡ pos id) × (IsFound s key id ⊎ IsCreated s key id t)

-- a segment with a key before an event has it after the event, or is marked, or destroyed
abbrev pub KeepsKeys : Machine → Event → Machine → Type 0
KeepsKeys s e t = (id key : ℕ) → HasKey s id key → HasKey t id key ⊎ (IsMarked t id ⊎ IsGone t id)

-- THE LAW. At each moment keys are distinct; each successful shmget finds the segment with its key, or
-- creates one if no segment has the key; and a segment keeps its key until it is marked
pub record KeysLeadToOne (o : Opening) (events : List Event) (end : Machine) : Type 0 where
  pub apart : Always (λ before s. KeysAreApart s) o events
  pub found : EachMove FindsByKey o events end
  pub kept : EachMove KeepsKeys o events end
