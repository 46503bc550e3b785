-- When a system starts: the first error of its areas and processes.
use Rattle.std.specs.Prelude.{ℕ, ◌≡◌, Bool, true, not, ◌&&◌, nat_lt, ◌⊎◌, if◌then◌else◌, List, [], ◌∷◌, length, Option, Some, None}
use Rattle.std.specs.List.{list_all}
use Rattle.shm_base.specs.Bounds.{Bounds, within}
use Rattle.shm_base.specs.Processes.{has_pid}
use Rattle.shm_base.specs.declared.call.Process.{Process}
use Rattle.shm_life.specs.declared.start.StartError.{StartError}
use Rattle.shm_life.specs.declared.start.StartError.TheVariants.{Areas, AreaSize, Processes, Pid, HostMemory}
use Rattle.shm_base.specs.declared.bounds.TheConstants.{LAST_PID, MOST_AREAS}

-- each area has at least one slot, and no more than `most`
abbrev pub are_sizes : ℕ → List ℕ → Bool
are_sizes most areas = list_all (within 1 most) areas

-- each pid is in its range, and none is used twice
abbrev pub are_pids : List Process → Bool
are_pids [] = true
are_pids (p ∷ ps) = within 1 LAST_PID p.pid && not (has_pid p.pid ps) && are_pids ps

-- the first error other than out of memory
abbrev pub start_error : Bounds → List ℕ → List Process → Option StartError
start_error limits areas processes =
    if not (within 1 MOST_AREAS (length areas)) then Some Areas else
    if not (are_sizes limits.most_slots areas) then Some AreaSize else
    if nat_lt limits.most_processes (length processes) then Some Processes else
    if not (are_pids processes) then Some Pid else
    None

-- a refusal is the first error; or out of memory, if there is none
abbrev pub IsFirstError : StartError → Option StartError → Type 0
IsFirstError e first = (first ≡ Some e) ⊎ ((e ≡ HostMemory) × (first ≡ None))

abbrev pub error_number : StartError → ℕ
error_number Areas = 1
error_number AreaSize = 2
error_number Processes = 3
error_number Pid = 4
error_number HostMemory = 5
