-- How a run with threads fails.
use Rattle.shm_threads.specs.declared.outcome.RunError.{RunError}
use Rattle.shm_threads.specs.declared.outcome.RunError.TheVariants as errors
use Rattle.shm_program.specs.declared.fault.RunFault.{RunFault}
use Rattle.shm_program.specs.declared.fault.RunFault.TheVariants.{Gate, Mismatch, ThreadRefused, HostMemory}

-- the error of a run with threads, as a fault
abbrev pub ended_as : RunError → RunFault
ended_as errors.HostMemory = HostMemory
ended_as (errors.GateExpired pid) = Gate pid
ended_as (errors.HistoryMismatch pid) = Mismatch pid
ended_as errors.ThreadRefused = ThreadRefused

-- a run with an open gate has no outcome for want of memory or of a thread
abbrev pub IsUngated : RunError → Type 0
IsUngated errors.HostMemory = Unit {0}
IsUngated errors.ThreadRefused = Unit {0}
IsUngated _ = ⊥

-- no run ends with a mismatch, or by a gate: its gate is open
abbrev pub CanFail : RunFault → Type 0
CanFail (Mismatch pid) = ⊥
CanFail (Gate pid) = ⊥
CanFail _ = Unit {0}
