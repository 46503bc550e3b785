-- The calls that a search's machine may refuse for want of the host's memory: those that take it, and those that may write a page to
-- a swap area.
use Rattle.std.specs.Prelude.{Bool, true, false}
use Rattle.shm_base.specs.Calls.{ProcessCall}
use Rattle.shm_base.specs.declared.call.Call.TheVariants.{Shmget, Shmat, Load, Store, Xadd, Exchange, CompareExchange, Swapoff}

abbrev pub may_lack_memory : ProcessCall → Bool
may_lack_memory (Shmget key size mode flags) = true
may_lack_memory (Shmat id addr flags) = true
may_lack_memory (Load addr len) = true
may_lack_memory (Store bytes addr) = true
may_lack_memory (Xadd addr add) = true
may_lack_memory (Exchange bytes addr) = true
may_lack_memory (CompareExchange expected desired addr) = true
may_lack_memory (Swapoff area) = true
may_lack_memory _ = false
