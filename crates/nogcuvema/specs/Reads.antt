-- What is read of a machine without a call, and flush rounds.
use Rattle.std.specs.Prelude.{ℕ, ℤ, ◌≡◌, Option, Some, None}
use Rattle.shm_base.specs.declared.call.ShmidDs.{ShmidDs}
use Rattle.shm_base.specs.declared.paging.FlushReport.{FlushReport}
use Rattle.shm_life.specs.Listed.{segment_at}
use Rattle.shm_machine.specs.declared.machine.Machine.{Machine}
use Rattle.shm_machine.specs.Answered.{Flushed}
use Rattle.nogcuvema.specs.declared.structs.NogSegment.{NogSegment}
use Rattle.nogcuvema.specs.Shown.{shown_by}
use Rattle.nogcuvema.specs.Answers.{closed, out_of_range, Unchanged}

-- the handle has a machine, which shows this and is unchanged
abbrev pub Reads : Option Machine → (Machine → Type 0) → ℕ → Option Machine → Type 0
Reads None shows code after = Unchanged closed None code after
Reads (Some m) shows code after = Unchanged 0 (Some m) code after × shows m

abbrev pub AnswersFound : ℕ → NogSegment → ℕ → Option (ℤ × ShmidDs) → Type 0
AnswersFound index segment code None = code ≡ out_of_range
AnswersFound index segment code (Some found) = (code ≡ 0) × (segment.index ≡ index) × (segment.id ≡ found.0) × (shown_by segment ≡ found.1)

-- the segment at an index, or out of range; the machine is unchanged
abbrev pub AnswersSegment : Option Machine → ℕ → NogSegment → ℕ → Option Machine → Type 0
AnswersSegment None index segment code after = Unchanged closed None code after
AnswersSegment (Some m) index segment code after = AnswersFound index segment code (segment_at m.system.machine index) × (after ≡ Some m)

-- a flush round with this report
abbrev pub FlushedTo : Option Machine → ℕ → FlushReport → ℕ → Option Machine → Type 0
FlushedTo None pages report code after = Unchanged closed None code after
FlushedTo (Some m) pages report code None = ⊥
FlushedTo (Some m) pages report code (Some n) = (code ≡ 0) × Flushed m.system pages report n.system
