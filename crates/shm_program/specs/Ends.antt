-- How a run reads its input.
use Rattle.std.specs.Prelude.{Bool, true, false}
use Rattle.std.specs.declared.io.ErrorKind.{ErrorKind}
use Rattle.std.specs.declared.io.ErrorKind.TheVariants.{Interrupted}
use Rattle.shm_program.specs.declared.fault.RunFault.{RunFault}
use Rattle.shm_program.specs.declared.fault.RunFault.TheVariants.{Script, ReadFailed, HostMemory}

-- a reader that failed in this way is read again
abbrev pub is_asked_again : ErrorKind → Bool
is_asked_again Interrupted = true
is_asked_again _ = false

-- reading the input can end with this fault
abbrev pub is_reading : RunFault → Bool
is_reading (Script fault) = true
is_reading ReadFailed = true
is_reading HostMemory = true
is_reading _ = false
