-- Isolation: a process's calls and replies never depend on the bytes of segments that it has not attached.
use Rattle.std.specs.Prelude.{◌≡◌, ◌⊎◌, ℕ, ◌+◌, Bool, true, false, if◌then◌else◌, List, [], ◌∷◌, length, replicate, Some, option_map}
use Rattle.shm_base.specs.declared.call.Event.{Event}
use Rattle.shm_base.specs.State.{Segment, Entry, Piece, Machine, Opening}
use Rattle.shm_base.specs.Identifier.{identifier}
use Rattle.shm_base.specs.History.{IsMove, LeadsFrom}
use Rattle.shm_history.specs.WorldState.{failures_in}
use Rattle.shm_laws.specs.Standing.{HasPiece, IsMoment, EachTurn}
use Rattle.shm_laws.specs.Permission.{Reach, reach}

-- a segment with its bytes hidden: each is replaced by 0
abbrev pub veiled : Bool → Segment → Segment
veiled hides x = record x { bytes = if hides then replicate (length x.bytes) 0 else x.bytes }

abbrev pub veiled_entry : (ℕ → Bool) → ℕ → Entry → Entry
veiled_entry hidden i e =
    record e { segment = option_map (veiled (hidden (identifier i e.destroyed))) e.segment }

abbrev pub veiled_from : (ℕ → Bool) → ℕ → List Entry → List Entry
veiled_from hidden i [] = []
veiled_from hidden i (e ∷ es) = veiled_entry hidden i e ∷ veiled_from hidden (i + 1) es

-- the machine with the bytes of these segments hidden
abbrev pub veil : (ℕ → Bool) → Machine → Machine
veil hidden s = record s { table = veiled_from hidden 0 s.table }

-- two machines that differ only in the bytes of these segments, whose sizes are the same
abbrev pub DifferIn : (ℕ → Bool) → Machine → Machine → Type 0
DifferIn hidden s other = veil hidden s ≡ veil hidden other

-- the process has no piece of these segments
abbrev pub HasNone : (ℕ → Bool) → Machine → ℕ → Type 0
HasNone hidden s pid = (p : Piece) → HasPiece s pid p → hidden p.seg ≡ false

-- if segments that the process has not attached had other bytes, its call would have the same reply, and only these bytes would
-- differ after it
abbrev pub IsBlind : List Event → Machine → Event → Machine → Type 0
IsBlind before s e t =
    (hidden : ℕ → Bool) (other : Machine) → HasNone hidden s e.pid → DifferIn hidden s other
    → (after : Machine) × IsMove other (length before + 1) e after × DifferIn hidden t after

-- all pieces of the process are of these segments
abbrev pub HasNoOther : (ℕ → Bool) → Machine → ℕ → Type 0
HasNoOther hidden s pid = (p : Piece) → HasPiece s pid p → hidden p.seg ≡ true

-- in both events the process accesses bytes of these segments only
pub record IsPrivate (hidden : ℕ → Bool) (s : Machine) (e f : Event) : Type 0 where
  pub process : f.pid ≡ e.pid
  pub own : HasNoOther hidden s e.pid
  pub left : (r : Reach) × (reach e.call ≡ Some r)
  pub right : (r : Reach) × (reach f.call ≡ Some r)

-- both events are the same call, of a process that has no piece of these segments
pub record IsAsked (hidden : ℕ → Bool) (s : Machine) (e f : Event) : Type 0 where
  pub process : f.pid ≡ e.pid
  pub call : f.call ≡ e.call
  pub none : HasNone hidden s e.pid

-- two continuations: the first leads from s to t, and at each step their two events are `alike`
abbrev pub SideBySide :
    (Machine → Event → Event → Type 0) → ℕ → Machine → List Event → List Event → Machine → Type 0
SideBySide alike n s [] [] t = t ≡ s
SideBySide alike n s [] (f ∷ fs) t = ⊥
SideBySide alike n s (e ∷ es) [] t = ⊥
SideBySide alike n s (e ∷ es) (f ∷ fs) t =
    (u : Machine) × IsMove s n e u × alike s e f × SideBySide alike (n + 1) u es fs t

-- Two continuations from machines that differ only in these segments' bytes. At each step they make the same call, or accesses by
-- a process whose pieces are all of these segments. Then equal calls have equal replies, and the ends differ only in these bytes.
-- (No pager fails: a failed call does nothing.)
abbrev pub IsBlindOn : ℕ → Machine → List Event → Machine → Type 0
IsBlindOn n s events t =
    (hidden : ℕ → Bool) (other : Machine) (others : List Event) (after : Machine)
    → DifferIn hidden s other → LeadsFrom n other others after → failures_in events ≡ 0
    → failures_in others ≡ 0
    → SideBySide (λ u e f. IsAsked hidden u e f ⊎ IsPrivate hidden u e f) n s events others t
    → SideBySide (λ u e f. (f ≡ e) ⊎ IsPrivate hidden u e f) n s events others t × DifferIn hidden t after

-- THE LAW. Each step is blind to these bytes, and so is each continuation from any moment
pub record IsIsolated (o : Opening) (events : List Event) (end : Machine) : Type 0 where
  pub turns : EachTurn IsBlind o events
  pub onwards :
      (before : List Event) (s : Machine) (m : IsMoment o events before s)
      → IsBlindOn (length before + 1) s m.after end
