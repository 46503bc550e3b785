-- The calls that may need the host's memory.
use Rattle.std.specs.Prelude.{◌≡◌, Bool, true, false}
use Rattle.shm_base.specs.Calls.{ProcessCall}
use Rattle.shm_base.specs.declared.call.Call.TheVariants.{Shmget, Shmat}

abbrev pub takes_memory : ProcessCall → Bool
takes_memory (Shmget key size mode flags) = true
takes_memory (Shmat id addr flags) = true
takes_memory _ = false

abbrev pub TakesNoMemory : ProcessCall → Type 0
TakesNoMemory call = takes_memory call ≡ false
