-- Removal: a segment is destroyed exactly when it must be.
use Rattle.std.specs.Prelude.{◌≡◌, ◌≤◌, ◌⊎◌, ℕ, pos, true, List}
use Rattle.shm_base.specs.declared.call.Call.TheVariants.{Rmid}
use Rattle.shm_base.specs.declared.call.Reply.TheVariants.{Done}
use Rattle.shm_base.specs.declared.call.Event.{Event}
use Rattle.shm_base.specs.State.{Segment, Machine, Opening}
use Rattle.shm_base.specs.Segments.{attach_count}
use Rattle.shm_laws.specs.Standing.{Stands, IsGone, EachMove, Always, Since}

-- WHEN A SEGMENT IS DESTROYED

-- a marked segment that exists has a piece
abbrev pub MarkedHavePieces : Machine → Type 0
MarkedHavePieces s = (id : ℕ) (x : Segment) → Stands s id x → x.dest ≡ true → 1 ≤ attach_count s.runners id

-- rmid finds the segment without pieces
pub record IsRemovedBare (s : Machine) (e : Event) (id : ℕ) : Type 0 where
  pub call : e.call ≡ Rmid (pos id)
  pub reply : e.reply ≡ Done
  pub bare : attach_count s.runners id ≡ 0

-- its last piece is detached while it is marked
pub record LosesLastPiece (s t : Machine) (id : ℕ) (x : Segment) : Type 0 where
  pub marked : x.dest ≡ true
  pub before : 1 ≤ attach_count s.runners id
  pub after : attach_count t.runners id ≡ 0

abbrev pub IsDue : Machine → Event → Machine → ℕ → Segment → Type 0
IsDue s e t id x = IsRemovedBare s e id ⊎ LosesLastPiece s t id x

-- an event destroys exactly the segments that are due
pub record DestroysWhatIsDue (s : Machine) (e : Event) (t : Machine) : Type 0 where
  pub just : (id : ℕ) (x : Segment) → Stands s id x → IsGone t id → IsDue s e t id x
  pub must : (id : ℕ) (x : Segment) → Stands s id x → IsDue s e t id x → IsGone t id
  pub marked : MarkedHavePieces t

-- WHAT IS MARKED

-- the segment exists and is marked
pub record IsMarked (s : Machine) (id : ℕ) : Type 0 where
  pub segment : Segment
  pub stands : Stands s id segment
  pub dest : segment.dest ≡ true

-- the event is a successful rmid of the segment
pub record IsRemoval (e : Event) (id : ℕ) : Type 0 where
  pub call : e.call ≡ Rmid (pos id)
  pub reply : e.reply ≡ Done

-- a successful rmid marks its segment if a process has a piece of it, and destroys it if none has
abbrev pub Removes : Machine → Event → Machine → Type 0
Removes s e t =
    (id : ℕ) → IsRemoval e id
    → ((1 ≤ attach_count s.runners id) × IsMarked t id) ⊎ ((attach_count s.runners id ≡ 0) × IsGone t id)

-- a segment marked before an event is marked after it, or destroyed
abbrev pub KeepsMarks : Machine → Event → Machine → Type 0
KeepsMarks s e t = (id : ℕ) → IsMarked s id → IsMarked t id ⊎ IsGone t id

-- each marked segment was removed by one of these events, and has been marked since
abbrev pub AreRemoved : Opening → List Event → Machine → Type 0
AreRemoved o before s =
    (id : ℕ) → IsMarked s id → Since o (λ u e. IsRemoval e id) (λ u e. IsMarked u id) before

-- THE LAW. Each event destroys exactly what is due; after each event, and at the end, a marked segment that exists has a piece; a
-- successful rmid marks or destroys, nothing else marks a segment, and a mark remains until the segment is destroyed
pub record GoesWhenItMust (o : Opening) (events : List Event) (end : Machine) : Type 0 where
  pub moves : EachMove DestroysWhatIsDue o events end
  pub marked : MarkedHavePieces end
  pub removals : EachMove Removes o events end
  pub kept : EachMove KeepsMarks o events end
  pub removed : Always (AreRemoved o) o events
