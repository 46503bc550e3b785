-- Reads and writes of any length through a handle.
use Rattle.std.specs.Prelude.{ℕ, ◌≡◌, ◌⊎◌, List, Option, Some, None}
use Rattle.shm_machine.specs.declared.machine.Machine.{Machine}
use Rattle.shm_machine.specs.declared.refusal.Refusal.{Refusal}
use Rattle.shm_machine.specs.declared.stretch.Progress.{Progress}
use Rattle.shm_machine.specs.Stretched.{CopiedTo, ReadTo, WrittenTo}
use Rattle.nogcuvema.specs.Answers.{closed, no_memory, refusal_code, Unchanged}

-- 0 if everything was done, else the code of the refusal that stopped it
abbrev pub stop_code : Option Refusal → ℕ
stop_code None = 0
stop_code (Some refusal) = refusal_code refusal

abbrev pub progress : ℕ → Option Refusal → Progress
progress done stopped = record { done = done; stopped = stopped }

-- this many bytes were read, and the code says why no more
abbrev pub ReadBy : Machine → ℕ → ℕ → List ℕ → ℕ → List ℕ → ℕ → Machine → Type 0
ReadBy before pid addr old code new done after =
    (stopped : Option Refusal) × (code ≡ stop_code stopped) × ReadTo before.system pid addr old (progress done stopped) new after.system

abbrev pub ReadThrough : Option Machine → ℕ → ℕ → List ℕ → ℕ → ℕ → List ℕ → ℕ → Option Machine → Type 0
ReadThrough None pid addr old done_old code new done_new after = Unchanged closed None code after × (new ≡ old) × (done_new ≡ done_old)
ReadThrough (Some before) pid addr old done_old code new done_new None = ⊥
ReadThrough (Some before) pid addr old done_old code new done_new (Some after) = ReadBy before pid addr old code new done_new after

-- this many bytes were written, and the code says why no more
abbrev pub WrittenBy : Machine → ℕ → ℕ → List ℕ → ℕ → ℕ → Machine → Type 0
WrittenBy before pid addr bytes code done after =
    (stopped : Option Refusal) × (code ≡ stop_code stopped) × WrittenTo before.system pid addr bytes (progress done stopped) after.system

abbrev pub WrittenThrough : Option Machine → ℕ → ℕ → List ℕ → ℕ → ℕ → ℕ → Option Machine → Type 0
WrittenThrough None pid addr bytes done_old code done_new after = Unchanged closed None code after × (done_new ≡ done_old)
WrittenThrough (Some before) pid addr bytes done_old code done_new None = ⊥
WrittenThrough (Some before) pid addr bytes done_old code done_new (Some after) = WrittenBy before pid addr bytes code done_new after

-- this many bytes were copied, and the code says why no more; or the host refused memory for them, and nothing changed
abbrev pub CopiedBy : Machine → ℕ × ℕ → ℕ × ℕ → ℕ → ℕ → ℕ → ℕ → Machine → Type 0
CopiedBy before from to size done_old code done after =
    ((stopped : Option Refusal) × (code ≡ stop_code stopped) × CopiedTo before.system from to size (progress done stopped) after.system)
    ⊎ ((code ≡ no_memory) × (done ≡ done_old) × (after ≡ before))

abbrev pub CopiedThrough : Option Machine → ℕ × ℕ → ℕ × ℕ → ℕ → ℕ → ℕ → ℕ → Option Machine → Type 0
CopiedThrough None from to size done_old code done after = Unchanged closed None code after × (done ≡ done_old)
CopiedThrough (Some before) from to size done_old code done None = ⊥
CopiedThrough (Some before) from to size done_old code done (Some after) = CopiedBy before from to size done_old code done after
