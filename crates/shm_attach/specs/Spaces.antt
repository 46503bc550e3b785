-- The processes with their pieces, as contracts see them, and the frames in their tables.
use Rattle.std.specs.Prelude.{◌≡◌, ◌≢◌, ◌%◌, ℕ, List, [], Option, Some, None, slice_get, All}
use Rattle.shm_base.specs.State.{Piece, Life, Unborn, Runner}
use Rattle.shm_base.specs.declared.bounds.TheConstants.{INDEXES}
use Rattle.shm_base.specs.Callers.{caller_from}
use Rattle.shm_base.specs.Callers.{Caller as FlatCaller}
use Rattle.shm_fault.specs.Store.{StoreView, frame_of}
use Rattle.shm_attach.specs.declared.process.Caller.{Caller}

-- one page of a segment, and its frame in the table of the segment's pieces
pub record Translation : Type 0 where
  pub seg : ℕ
  pub page : ℕ
  pub frame : Option ℕ

-- `most` is the limit of pieces of a process; `lost` are the segments that the last change of pieces concerns
pub record SpacesView : Type 0 where
  pub runners : List Runner
  pub translations : List Translation
  pub most : ℕ
  pub lost : List ℕ

-- each translation agrees with the frames of the store
abbrev pub AreTrue : List Translation → StoreView → Type 0
AreTrue ts m = All (λ (t : Translation). t.frame ≡ frame_of m t.seg t.page) ts

-- translations that agreed with a store still do
abbrev pub KeepTrue : SpacesView → SpacesView → Type 0
KeepTrue s t = (m : StoreView) → AreTrue s.translations m → AreTrue t.translations m

abbrev pub pieces_in : Option Runner → List Piece
pieces_in None = []
pieces_in (Some r) = r.pieces

-- the pieces of the process at an index
abbrev pub pieces_at : List Runner → ℕ → List Piece
pieces_at rs i = pieces_in (slice_get rs i)

abbrev pub life_in : Option Runner → Life
life_in None = Unborn
life_in (Some r) = r.life

-- the state of the process at an index
abbrev pub life_at : List Runner → ℕ → Life
life_at rs i = life_in (slice_get rs i)

-- a caller among these processes, as the flat machine has it
abbrev pub caller_seen : Caller → List Runner → FlatCaller
caller_seen c rs = record { index = c.index; pid = c.pid; cred = c.cred; pieces = pieces_at rs c.index }

-- the caller is one of these processes, and live
abbrev pub IsCaller : Caller → List Runner → Type 0
IsCaller c rs = caller_from 0 c.pid rs ≡ Some (caller_seen c rs)

-- no other segment with a segment's index has pieces, of which there are these many of each segment
abbrev pub IsOnlyAt : ℕ → (ℕ → ℕ) → Type 0
IsOnlyAt seg count = (id : ℕ) → id % INDEXES ≡ seg % INDEXES → id ≢ seg → count id ≡ 0
