-- Counts of changes of pieces, so that a host knows when to read the pieces of a process again. Processes whose pids have the same
-- remainder share a count.
use Rattle.std.specs.Prelude.{ℕ, ◌≡◌, ◌+◌, ◌%◌, ◌^◌, List, replicate, get_or, set, Option, Some, None}
use Rattle.shm_attach.specs.Spans.{pieces_by}
use Rattle.shm_base.specs.Calls.{ProcessCall}
use Rattle.shm_base.specs.State.{Machine}
use Rattle.shm_base.specs.declared.call.Call.TheVariants.{Shmat, Shmdt, Fork, Exec, Exit, Munmap, Mprotect}
use Rattle.shm_life.specs.declared.changing.TheConstants.{COUNTS}

-- the process whose pieces a call of a process may change
abbrev pub changed_by : ℕ → ProcessCall → Option ℕ
changed_by pid (Shmat id addr flags) = Some pid
changed_by pid (Shmdt addr) = Some pid
changed_by pid (Fork child) = Some child
changed_by pid Exec = Some pid
changed_by pid Exit = Some pid
changed_by pid (Munmap addr len) = Some pid
changed_by pid (Mprotect addr len writable) = Some pid
changed_by pid _ = None

-- the count of a process
abbrev pub changes_of : ℕ → List ℕ → ℕ
changes_of pid counts = get_or counts (pid % COUNTS) 0

-- no change was counted
abbrev pub no_changes : List ℕ
no_changes = replicate COUNTS 0

-- a count rises by 1; it wraps at 2^64, which is more than the calls of any machine
abbrev pub counted_for : Option ℕ → List ℕ → List ℕ
counted_for None counts = counts
counted_for (Some pid) counts = set counts (pid % COUNTS) ((changes_of pid counts + 1) % 2 ^ 64)

-- the counts after a call of a process
abbrev pub counted_after : ℕ → ProcessCall → List ℕ → List ℕ
counted_after pid call counts = counted_for (changed_by pid call) counts

-- each process whose count is the same has the same pieces
abbrev pub ChangesAreCounted : List ℕ → Machine → List ℕ → Machine → Type 0
ChangesAreCounted old before new after =
    (p : ℕ) → changes_of p new ≡ changes_of p old → pieces_by p after.runners ≡ pieces_by p before.runners
