-- Why a log was not read.
use Rattle.std.specs.Prelude.{◌≡◌, List, Result, Err}
use Rattle.shm_judge.specs.Logs.{Entry}
use Rattle.shm_judge.specs.declared.fault.LogFault.{LogFault}
use Rattle.shm_judge.specs.declared.fault.LogRefused.{LogRefused}
use Rattle.shm_judge.specs.declared.fault.LogRefused.TheVariants.{Fault, HostMemory}

-- it has this first fault, or the host refused memory
abbrev pub IsRefusedLog : LogRefused → Result (List Entry) LogFault → Type 0
IsRefusedLog (Fault fault) entries = entries ≡ Err fault
IsRefusedLog HostMemory entries = Unit {0}
