-- Identity: an identifier names one segment, and never another.
use Rattle.std.specs.Prelude.{◌≡◌, ◌⊎◌, ℕ, pos, List, Some}
use Rattle.shm_base.specs.declared.flags.GetFlags.{GetFlags}
use Rattle.shm_base.specs.declared.call.Call.TheVariants.{Shmget}
use Rattle.shm_base.specs.declared.call.Reply.TheVariants.{Id}
use Rattle.shm_base.specs.declared.call.Event.{Event}
use Rattle.shm_base.specs.State.{Segment, Machine, Opening}
use Rattle.shm_base.specs.Identifier.{Invalid, look}
use Rattle.shm_base.specs.Callers.{Caller, caller_of}
use Rattle.shm_laws.specs.Standing.{Stands, IsGone, EachMove, EachMoment, Always, Since}

-- the same segment: of the same size, and made by the same process of the same user
pub record IsSame (x y : Segment) : Type 0 where
  pub size : y.size ≡ x.size
  pub cpid : y.cpid ≡ x.cpid
  pub cuid : y.perm.cuid ≡ x.perm.cuid
  pub cgid : y.perm.cgid ≡ x.perm.cgid

-- an identifier keeps its segment until the segment is destroyed, and is removed from then on
pub record KeepsNames (s later : Machine) : Type 0 where
  pub stands :
      (id : ℕ) (x : Segment) → Stands s id x
      → ((y : Segment) × Stands later id y × IsSame x y) ⊎ IsGone later id
  pub gone : (id : ℕ) → IsGone s id → IsGone later id

-- an identifier that names a segment after an event named it before, or was never issued before
pub record NamesAnew (s : Machine) (e : Event) (t : Machine) : Type 0 where
  pub new :
      (id : ℕ) (y : Segment) → Stands t id y
      → ((x : Segment) × Stands s id x × IsSame x y) ⊎ (look s.table (pos id) ≡ Invalid)

-- the event created the segment: a shmget for its size, by its creating process, whose answer was its
-- identifier, which was never issued before; and the process had the user and group of its creator
pub record IsMadeBy (s : Machine) (e : Event) (id : ℕ) (y : Segment) : Type 0 where
  pub key : ℕ
  pub mode : ℕ
  pub flags : GetFlags
  pub call : e.call ≡ Shmget key y.size mode flags
  pub reply : e.reply ≡ Id (pos id)
  pub never : look s.table (pos id) ≡ Invalid
  pub process : e.pid ≡ y.cpid
  pub caller : Caller
  pub live : caller_of s e.pid ≡ Some caller
  pub user : y.perm.cuid ≡ caller.cred.uid
  pub group : y.perm.cgid ≡ caller.cred.gid

-- the segment existed
abbrev pub StandsAs : Machine → ℕ → Segment → Type 0
StandsAs s id y = (x : Segment) × Stands s id x × IsSame x y

-- each segment that exists was made by one of these events, and has existed since
unfoldable pub AreMade : Opening → List Event → Machine → Type 0
AreMade o before s =
    (id : ℕ) (y : Segment) → Stands s id y
    → Since o (λ u e. IsMadeBy u e id y) (λ u e. StandsAs u id y) before

-- from each of these moments to the last of them, identifiers keep their segments
abbrev pub AreNamesKept : Opening → List Event → Machine → Type 0
AreNamesKept o before s = EachMoment KeepsNames o before s

-- THE LAW. From each moment of the history to each later one identifiers keep their segments; a new segment gets an identifier
-- that was never issued before; and at each moment each segment was made by an event
pub record NamesOneSegment (o : Opening) (events : List Event) (end : Machine) : Type 0 where
  pub kept : Always (AreNamesKept o) o events
  pub new : EachMove NamesAnew o events end
  pub made : Always (AreMade o) o events
