-- What a host looks up without a call, through a handle.
use Rattle.std.specs.Prelude.{ℕ, ℤ, pos, negsuc, ◌≡◌, ◌⊎◌, Option, Some, None, Result, Ok, Err}
use Rattle.shm_base.specs.Codes.{code_of}
use Rattle.shm_base.specs.Bounds.{Bounds}
use Rattle.shm_base.specs.Index.{index_of}
use Rattle.shm_base.specs.Space.{covering}
use Rattle.shm_base.specs.State.{Piece}
use Rattle.shm_base.specs.Callers.{Caller, caller_of}
use Rattle.shm_base.specs.declared.call.ShmidDs.{ShmidDs}
use Rattle.shm_base.specs.declared.errno.Errno.{Errno}
use Rattle.shm_base.specs.declared.errno.Errno.TheVariants.{Esrch, Einval, Sigsegv}
use Rattle.shm_life.specs.Listed.{segment_of}
use Rattle.shm_life.specs.Residency.{ShowsPages}
use Rattle.shm_life.specs.SystemState.{SystemState}
use Rattle.shm_machine.specs.declared.machine.Machine.{Machine}
use Rattle.nogcuvema.specs.declared.structs.NogLimits.{NogLimits}
use Rattle.nogcuvema.specs.declared.structs.NogPiece.{NogPiece}
use Rattle.nogcuvema.specs.declared.structs.NogSegment.{NogSegment}
use Rattle.nogcuvema.specs.Shown.{piece_shown, shown_by}
use Rattle.nogcuvema.specs.Answers.{closed, Unchanged}
use Rattle.nogcuvema.specs.Opens.{numbers_of}

-- a lookup in this machine, which stays unchanged
abbrev pub Asks : Option Machine → (SystemState → Type 0) → ℕ → Option Machine → Type 0
Asks None answers code after = Unchanged closed None code after
Asks (Some m) answers code after = (after ≡ Some m) × answers m.system

-- the piece that an address is in
abbrev pub PieceFound : NogPiece → ℕ → Option Piece → Type 0
PieceFound piece code None = code ≡ code_of Sigsegv
PieceFound piece code (Some found) = (code ≡ 0) × (piece ≡ piece_shown found)

abbrev pub PieceOfCaller : ℕ → NogPiece → ℕ → Option Caller → Type 0
PieceOfCaller addr piece code None = code ≡ code_of Esrch
PieceOfCaller addr piece code (Some c) = PieceFound piece code (covering addr c.pieces)

-- the piece of a process that an address is in; or the errno
abbrev pub PieceOf : ℕ → ℕ → NogPiece → ℕ → SystemState → Type 0
PieceOf pid addr piece code s = PieceOfCaller addr piece code (caller_of s.machine pid)

abbrev pub SegmentFound : ℤ → NogSegment → ℕ → Result ShmidDs Errno → Type 0
SegmentFound id segment code (Err e) = code ≡ code_of e
SegmentFound id segment code (Ok found) =
    (code ≡ 0) × (segment.id ≡ id) × (segment.index ≡ index_of id) × (shown_by segment ≡ found)

-- the segment of an identifier; or the errno
abbrev pub SegmentOf : ℤ → NogSegment → ℕ → SystemState → Type 0
SegmentOf id segment code s = SegmentFound id segment code (segment_of s.machine id)

-- the numbers of limits
abbrev pub numbers_by : NogLimits → Bounds
numbers_by l = record (numbers_of l) { rules = record { 0 = l.rules } }

-- how many pages of a segment are in frames, and how many only in slots; or that there is no such segment
abbrev pub PagesOf : ℤ → ℕ → ℕ → ℕ → SystemState → Type 0
PagesOf (negsuc n) resident swapped code s = code ≡ code_of Einval
PagesOf (pos seg) resident swapped code s =
    ((code ≡ 0) × ShowsPages s.machine s.memory seg (Some (record { resident = resident; swapped = swapped })))
    ⊎ ((code ≡ code_of Einval) × ShowsPages s.machine s.memory seg None)
