-- The segment of an identifier, the pieces of a process, and what each event of a history keeps.
use Rattle.std.specs.Prelude.{◌≡◌, ℕ, ◌+◌, ◌%◌, pos, List, [], ◌∷◌, ◌++◌, length, All, Contains}
use Rattle.shm_base.specs.declared.call.Event.{Event}
use Rattle.shm_base.specs.State.{Segment, Piece, Runner, Machine, Opening, start_of}
use Rattle.shm_base.specs.Identifier.{Found, Removed, look}
use Rattle.shm_base.specs.History.{IsMove, IsHistory}
use Rattle.shm_base.specs.declared.bounds.TheConstants.{INDEXES}

-- the segment exists under the identifier
abbrev pub Stands : Machine → ℕ → Segment → Type 0
Stands s id x = look s.table (pos id) ≡ Found (id % INDEXES) x

-- the identifier is that of a destroyed segment
abbrev pub IsGone : Machine → ℕ → Type 0
IsGone s id = look s.table (pos id) ≡ Removed

-- the process has the piece
pub record HasPiece (s : Machine) (pid : ℕ) (p : Piece) : Type 0 where
  pub process : Runner
  pub is : Contains s.runners process
  pub named : process.pid ≡ pid
  pub has : Contains process.pieces p

-- this holds of each piece of a process
abbrev pub EachPiece : (ℕ → Piece → Type 0) → Machine → Type 0
EachPiece law s = All (λ (r : Runner). All (law r.pid) r.pieces) s.runners

-- the events, of which the first is at place n, lead from s to t; the law holds for each, from the state before it to the state
-- after it
abbrev pub MovesBy : (Machine → Event → Machine → Type 0) → ℕ → Machine → List Event → Machine → Type 0
MovesBy law n s [] t = t ≡ s
MovesBy law n s (e ∷ es) t = (u : Machine) × IsMove s n e u × law s e u × MovesBy law (n + 1) u es t

-- the same for a whole history
abbrev pub EachMove : (Machine → Event → Machine → Type 0) → Opening → List Event → Machine → Type 0
EachMove law o events end = MovesBy law 1 (start_of o) events end

-- the events, of which the first is at place n, lead from s to t; the law holds for s, for each machine on the way, and for t
abbrev pub MomentsBy : (Machine → Machine → Type 0) → ℕ → Machine → List Event → Machine → Type 0
MomentsBy law n s [] t = law s t × (t ≡ s)
MomentsBy law n s (e ∷ es) t = law s t × ((u : Machine) × IsMove s n e u × MomentsBy law (n + 1) u es t)

-- the same for each moment of a whole history
abbrev pub EachMoment : (Machine → Machine → Type 0) → Opening → List Event → Machine → Type 0
EachMoment law o events end = MomentsBy law 1 (start_of o) events end

-- a moment of the history: these events came before it, and the machine is s
pub record IsMoment (o : Opening) (events before : List Event) (s : Machine) : Type 0 where
  pub after : List Event
  pub whole : before ++ after ≡ events
  pub leads : IsHistory o before s

-- the law holds at each moment of a whole history, for the events before it and the machine
abbrev pub Always : (List Event → Machine → Type 0) → Opening → List Event → Type 0
Always law o events = (before : List Event) (s : Machine) → IsMoment o events before s → law before s

-- a step of the history: these events came before it, the machine was s, and the next event led to t
pub record IsTurn
    (o : Opening) (events before : List Event) (s : Machine) (e : Event) (t : Machine) : Type 0 where
  pub after : List Event
  pub whole : before ++ e ∷ after ≡ events
  pub leads : IsHistory o before s
  pub move : IsMove s (length before + 1) e t

-- the law holds at each step of a whole history, for the events before it and the event
abbrev pub EachTurn : (List Event → Machine → Event → Machine → Type 0) → Opening → List Event → Type 0
EachTurn law o events =
    (before : List Event) (s : Machine) (e : Event) (t : Machine) → IsTurn o events before s e t
    → law before s e t

-- one of these events began something, and each later one kept it
pub data Since (o : Opening) (begins keeps : Machine → Event → Type 0) : List Event → Type 0 where
  Began :
      (before : List Event) (s : Machine) (e : Event) → IsHistory o before s → begins s e
      → Since o begins keeps (before ++ e ∷ [])
  Lasted :
      (before : List Event) (s : Machine) (e : Event) → IsHistory o before s → keeps s e
      → Since o begins keeps before → Since o begins keeps (before ++ e ∷ [])
