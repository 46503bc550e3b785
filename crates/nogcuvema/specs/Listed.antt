-- What ipcs(1) and /proc show, through a handle.
use Rattle.std.specs.Prelude.{ℕ, ℤ, ◌≡◌, Bool, Option, Some, None, Result, Ok, Err, slice_get}
use Rattle.shm_base.specs.Codes.{code_of}
use Rattle.shm_base.specs.State.{Piece, Runner, Machine as Flat}
use Rattle.shm_attach.specs.Failing.{first_absent, first_failed}
use Rattle.shm_attach.specs.Spans.{pieces_by}
use Rattle.shm_base.specs.Callers.{Caller, caller_of}
use Rattle.shm_fault.specs.Store.{frame_of}
use Rattle.shm_base.specs.declared.call.ShmidDs.{ShmidDs}
use Rattle.shm_base.specs.declared.errno.Errno.{Errno}
use Rattle.shm_base.specs.declared.errno.Errno.TheVariants.{Esrch}
use Rattle.shm_life.specs.Listed.{IsHighest, Sums, stat_at}
use Rattle.shm_life.specs.SystemState.{SystemState}
use Rattle.shm_machine.specs.declared.machine.Machine.{Machine}
use Rattle.nogcuvema.specs.declared.structs.NogPiece.{NogPiece}
use Rattle.nogcuvema.specs.declared.structs.NogSegment.{NogSegment}
use Rattle.nogcuvema.specs.declared.structs.NogUsage.{NogUsage}
use Rattle.nogcuvema.specs.declared.structs.NogProcess.{NogProcess}
use Rattle.nogcuvema.specs.Shown.{shown_by, sums_by, piece_shown, process_shown}
use Rattle.nogcuvema.specs.Answers.{closed, out_of_range, Unchanged}

-- the sums of all segments, and the highest index
pub record Uses (s : SystemState) (usage : NogUsage) : Type 0 where
  pub sums : Sums s.machine s.memory (sums_by usage)
  pub highest : IsHighest s.machine.table usage.highest

-- the segment at an index, or the errno
abbrev pub StatOf : ℕ → NogSegment → ℕ → Result (ℤ × ShmidDs) Errno → Type 0
StatOf index segment code (Ok found) = (code ≡ 0) × (segment.index ≡ index) × (segment.id ≡ found.0) × (shown_by segment ≡ found.1)
StatOf index segment code (Err errno) = code ≡ code_of errno

abbrev pub AnswersStat : Option Machine → ℕ → ℕ → NogSegment → ℕ → Option Machine → Type 0
AnswersStat None pid index segment code after = Unchanged closed None code after
AnswersStat (Some m) pid index segment code after = StatOf index segment code (stat_at m.system.machine pid index) × (after ≡ Some m)

-- the piece at an index; out of range if there is none
abbrev pub PieceFound : NogPiece → ℕ → Option Piece → Type 0
PieceFound piece code None = code ≡ out_of_range
PieceFound piece code (Some found) = (code ≡ 0) × (piece ≡ piece_shown found)

-- a piece of a process, by its index among the pieces
abbrev pub PieceBy : ℕ → NogPiece → ℕ → Option Caller → Type 0
PieceBy index piece code None = code ≡ code_of Esrch
PieceBy index piece code (Some c) = PieceFound piece code (slice_get c.pieces index)

abbrev pub PieceOf : ℕ → NogPiece → ℕ → ℕ → Flat → Type 0
PieceOf index piece code pid s = PieceBy index piece code (caller_of s pid)

abbrev pub AnswersPiece : Option Machine → ℕ → ℕ → NogPiece → ℕ → Option Machine → Type 0
AnswersPiece None pid index piece code after = Unchanged closed None code after
AnswersPiece (Some m) pid index piece code after = PieceOf index piece code pid m.system.machine × (after ≡ Some m)

-- the process at an index; out of range if there is none
abbrev pub ProcessOf : NogProcess → ℕ → Option Runner → Type 0
ProcessOf process code None = code ≡ out_of_range
ProcessOf process code (Some r) = (code ≡ 0) × (process ≡ process_shown r.pid r.life)

abbrev pub AnswersProcess : Option Machine → ℕ → NogProcess → ℕ → Option Machine → Type 0
AnswersProcess None index process code after = Unchanged closed None code after
AnswersProcess (Some m) index process code after = ProcessOf process code (slice_get m.system.machine.runners index) × (after ≡ Some m)

-- the address at which an access fails; out of range if it does not
abbrev pub FailedBy : ℕ → ℕ → Option ℕ → Type 0
FailedBy at code None = code ≡ out_of_range
FailedBy at code (Some a) = (code ≡ 0) × (at ≡ a)

abbrev pub AnswersFailed : Option Machine → ℕ → ℕ → ℕ → Bool → ℕ → ℕ → Option Machine → Type 0
AnswersFailed None pid addr len write at code after = Unchanged closed None code after
AnswersFailed (Some m) pid addr len write at code after = FailedBy at code (first_failed write (pieces_by pid m.system.machine.runners) addr len) × (after ≡ Some m)

abbrev pub AnswersAbsent : Option Machine → ℕ → ℕ → ℕ → ℕ → ℕ → Option Machine → Type 0
AnswersAbsent None pid addr len at code after = Unchanged closed None code after
AnswersAbsent (Some m) pid addr len at code after =
    FailedBy at code (first_absent (frame_of m.system.memory) (pieces_by pid m.system.machine.runners) addr len) × (after ≡ Some m)
